-- How a table of structs is filled.
use Rattle.std.proofs.Common.{◌≡◌, ◌≢◌, ℕ, ◌+◌, ◌<◌, ◌≤◌, Bool, true, false, cond, List, [], ◌∷◌, ◌++◌, length, get_or, take, None, Some, ◌⊎◌, inl, inr, refl, ap, sym, ◌∙◌, subst, arith}
use Rattle.std.specs.List.{All, Contains, slice_get}
use Rattle.std.specs.Option.{is_some}
use Rattle.std.specs.Str.{bytes_eq}
use Rattle.std.proofs.lemmas.List.{take_more, take_all, length_push}
use Rattle.std.proofs.lemmas.List.Elements.{All-nil, All-cons}
use Rattle.std.proofs.lemmas.Option.{slice_get-get_or, slice_get_within, get_or_from_slice_get}
use Rattle.std.proofs.lemmas.Slice.Eq.{bytes_eq-Decides}
use Rattle.vd_base.specs.declared.ctype.Field.{Field}
use Rattle.vd_base.specs.Layout.{Table, are_fields, fields_of, has_struct, refusal}
use Rattle.vd_base.specs.LayoutLaws.{IsMade}
use Rattle.vd_heads.specs.declared.content.Content.TheVariants as content
use Rattle.vd_heads.specs.declared.content.Part.{Part}
use Rattle.vd_heads.specs.declared.table.Space.TheVariants as space
use Rattle.vd_heads.specs.declared.view.View.{View}
use Rattle.vd_heads.specs.Closure.{Means, IsUnambiguous}
use Rattle.vd_heads.specs.Declaration.{Bytes}
use Rattle.vd_heads.proofs.Sets.{slice_get-front, slice_get-last, slice_get-push}
use Rattle.vd_sized.specs.declared.order.StructSeen.{StructSeen}
use Rattle.vd_sized.specs.Seen.{AreAllSeen, IsMeant, Names}
use Rattle.vd_scopes.specs.Scope.{HasStructs}
use Rattle.vd_scopes.specs.Structs.{Stands, IsTaken, IsRefused, IsTried, Grows, same, more, IsVisited, Passes, Settles}

-- ---- what is in a table

taken_has : (old : Table) (s : StructSeen) (new : Table) → IsTaken old s new → has_struct new s.name.now ≡ true
taken_has old s new t = ap (λ x. has_struct x s.name.now) t.added ∙ ap (λ b. is_some (cond b (Some s.fields.now) (fields_of old s.name.now))) ((bytes_eq-Decides s.name.now s.name.now).1 refl)

taken_keeps : (old : Table) (s : StructSeen) (new : Table) (name : Bytes) → IsTaken old s new → has_struct old name ≡ true → has_struct new name ≡ true
taken_keeps old s new name t h = ap (λ x. has_struct x name) t.added ∙ go (bytes_eq s.name.now name) where
  go : (b : Bool) → is_some (cond b (Some s.fields.now) (fields_of old name)) ≡ true
  go true = refl
  go false = h

grows_keeps : (among : List StructSeen) (old new : Table) (name : Bytes) → Grows among old new → has_struct old name ≡ true → has_struct new name ≡ true
grows_keeps among old new name same h = h
grows_keeps among old new name (more {between = b} g s stands t) h = taken_keeps b s new name t (grows_keeps among old b name g h)

grows_wider : (few many : List StructSeen) (old new : Table) → ((s : StructSeen) → Stands few s → Stands many s) → Grows few old new → Grows many old new
grows_wider few many old new wider same = same
grows_wider few many old new wider (more {between = b} g s stands t) = more (grows_wider few many old b wider g) s (wider s stands) t

grows_both : (among : List StructSeen) (old between new : Table) → Grows among old between → Grows among between new → Grows among old new
grows_both among old between new first same = first
grows_both among old between new first (more {between = b} g s stands t) = more (grows_both among old between b first g) s stands t

-- ---- passes

stands_front : (xs ys : List StructSeen) (s : StructSeen) → Stands xs s → Stands (xs ++ ys) s
stands_front xs ys s h = (h.0, slice_get-front xs ys h.0 s h.1)

stands_last : (xs : List StructSeen) (s : StructSeen) → Stands (xs ++ s ∷ []) s
stands_last xs s = (length xs, slice_get-last xs s)

stands_push : (xs : List StructSeen) (s x : StructSeen) → Stands (xs ++ s ∷ []) x → Stands xs x ⊎ (x ≡ s)
stands_push xs s x h = elim (slice_get-push xs s h.0 x h.1) [ inl e ↦ inl (h.0, e) | inr e ↦ inr e ]

pub passes_none : (table : Table) → Passes table table [] []
passes_none table = record { grows = same; fewer = omega arith; among = λ s h. h; done = λ s h. inr h; still = λ e. (refl, λ s h. absurd (nothing s h.0 h.1)) } where
  nothing : (s : StructSeen) (j : ℕ) → slice_get [] j ≡ Some s → ⊥
  nothing s j e = cc

passes_taken : (ws : List StructSeen) (s : StructSeen) (old mid new : Table) (left : List StructSeen) → Passes old mid ws left → IsTaken mid s new → Passes old new (ws ++ s ∷ []) left
passes_taken ws s old mid new left p t = record {
  grows = more (grows_wider ws (ws ++ s ∷ []) old mid (stands_front ws (s ∷ [])) p.grows) s (stands_last ws s) t;
  fewer = (let f = p.fewer in let l = length_push ws s in omega (arith, f, l));
  among = λ x h. stands_front ws (s ∷ []) x (p.among x h);
  done = λ x h. elim (stands_push ws s x h) [
    | inl old ↦ elim (p.done x old) [ inl has ↦ inl (taken_keeps mid s new x.name.now t has) | inr waits ↦ inr waits ]
    | inr e ↦ inl (ap (λ y. has_struct new y.name.now) e ∙ taken_has mid s new t)
  ];
  still = λ e. absurd (let f = p.fewer in let l = length_push ws s in omega (arith, f, l, e));
}

passes_refused : (ws : List StructSeen) (s : StructSeen) (old mid : Table) (left : List StructSeen) → Passes old mid ws left → IsRefused mid s → Passes old mid (ws ++ s ∷ []) (left ++ s ∷ [])
passes_refused ws s old mid left p r = record {
  grows = grows_wider ws (ws ++ s ∷ []) old mid (stands_front ws (s ∷ [])) p.grows;
  fewer = (let f = p.fewer in let l = length_push ws s in let m = length_push left s in omega (arith, f, l, m));
  among = λ x h. elim (stands_push left s x h) [ inl was ↦ stands_front ws (s ∷ []) x (p.among x was) | inr e ↦ at x e ];
  done = λ x h. elim (stands_push ws s x h) [
    | inl was ↦ elim (p.done x was) [ inl has ↦ inl has | inr waits ↦ inr (stands_front left (s ∷ []) x waits) ]
    | inr e ↦ inr (in_left x e)
  ];
  still = λ e. (let q = p.still (let l = length_push ws s in let m = length_push left s in omega (arith, l, m, e)) in (q.0, λ x h. elim (stands_push ws s x h) [ inl was ↦ q.1 x was | inr f ↦ here q.0 x f ]));
} where
  at : (x : StructSeen) → x ≡ s → Stands (ws ++ s ∷ []) x
  at x e = let P : StructSeen → Type 0 = λ y. Stands (ws ++ s ∷ []) y in subst P (sym e) (stands_last ws s)

  in_left : (x : StructSeen) → x ≡ s → Stands (left ++ s ∷ []) x
  in_left x e = let P : StructSeen → Type 0 = λ y. Stands (left ++ s ∷ []) y in subst P (sym e) (stands_last left s)

  here : mid ≡ old → (x : StructSeen) → x ≡ s → IsRefused old x
  here e x f = let P : Table → Type 0 = λ t. IsRefused t s in let Q : StructSeen → Type 0 = λ y. IsRefused old y in subst Q (sym f) (subst P e r)

passes_push : (ws : List StructSeen) (s : StructSeen) (old mid new : Table) (left after : List StructSeen) → Passes old mid ws left → IsVisited s mid new left after → Passes old new (ws ++ s ∷ []) after
passes_push ws s old mid new left after p v = elim v [
  | inl t ↦ (let P : List StructSeen → Type 0 = λ l. Passes old new (ws ++ s ∷ []) l in subst P (sym t.1) (passes_taken ws s old mid new left p t.0))
  | inr r ↦ (let P : List StructSeen → Type 0 = λ l. Passes old mid (ws ++ s ∷ []) l in let Q : Table → Type 0 = λ t. Passes old t (ws ++ s ∷ []) after in
      subst Q (sym r.1) (subst P (sym r.2) (passes_refused ws s old mid left p r.0)))
]

pub passes_more : (ws : List StructSeen) (i : ℕ) (s : StructSeen) (old mid new : Table) (left after : List StructSeen) → i < length ws → s ≡ get_or ws i s → Passes old mid (take i ws) left → IsVisited s mid new left after
    → Passes old new (take (i + 1) ws) after
passes_more ws i s old mid new left after within at p v =
    let step : take i ws ++ s ∷ [] ≡ take (i + 1) ws = sym (take_more ws i s within ∙ ap (λ y. take i ws ++ y ∷ []) (sym at)) in
    let P : List StructSeen → Type 0 = λ xs. Passes old new xs after in
    subst P step (passes_push (take i ws) s old mid new left after p v)

pub passes_all : (ws : List StructSeen) (i : ℕ) (old new : Table) (left : List StructSeen) → length ws ≤ i → Passes old new (take i ws) left → Passes old new ws left
passes_all ws i old new left all p = let P : List StructSeen → Type 0 = λ xs. Passes old new xs left in subst P (take_all i ws all) p

-- ---- passes until nothing is taken

-- Each of the structs is in the table, or it waits.
pub record Settling (seen : List StructSeen) (old now : Table) (waiting : List StructSeen) : Type 0 where
  pub grows : Grows seen old now
  pub among : (s : StructSeen) → Stands waiting s → Stands seen s
  pub done : (s : StructSeen) → Stands seen s → (has_struct now s.name.now ≡ true) ⊎ Stands waiting s

pub settling_begun : (seen : List StructSeen) (table : Table) → Settling seen table table seen
settling_begun seen table = record { grows = same; among = λ s h. h; done = λ s h. inr h }

pub settling_more : (seen : List StructSeen) (old now new : Table) (waiting ws left : List StructSeen) → ws ≡ waiting → Settling seen old now waiting → Passes now new ws left → Settling seen old new left
settling_more seen old now new waiting ws left e s q = record {
  grows = grows_both seen old now new s.grows (grows_wider waiting seen now new s.among p.grows);
  among = λ x h. s.among x (p.among x h);
  done = λ x h. elim (s.done x h) [ inl has ↦ inl (grows_keeps waiting now new x.name.now p.grows has) | inr waits ↦ p.done x waits ];
} where
  p : Passes now new waiting left
  p = let P : List StructSeen → Type 0 = λ xs. Passes now new xs left in subst P e q

pub settled : (seen : List StructSeen) (old now new : Table) (waiting ws left : List StructSeen) → ws ≡ waiting → length left ≡ length waiting → Settling seen old now waiting → Passes now new ws left → Settles old new seen
settled seen old now new waiting ws left e same_length s q = record {
  grows = grows_both seen old now new s.grows (grows_wider waiting seen now new s.among p.grows);
  settled = λ x h. elim (s.done x h) [ inl has ↦ inl (grows_keeps waiting now new x.name.now p.grows has) | inr waits ↦ inr (refused x (still.1 x waits)) ];
} where
  p : Passes now new waiting left
  p = let P : List StructSeen → Type 0 = λ xs. Passes now new xs left in subst P e q

  still : (new ≡ now) × ((x : StructSeen) → Stands waiting x → IsRefused now x)
  still = p.still same_length

  refused : (x : StructSeen) → IsRefused now x → IsRefused new x
  refused x r = let P : Table → Type 0 = λ t. IsRefused t x in subst P (sym still.0) r

-- ---- what the table has

-- The table has only structs that names mean.
record Fits (parts : List Part) (table : Table) : Type 0 where
  made : IsMade table
  filled : All (λ d. are_fields d.1 ≡ true) table
  declared : (name : Bytes) (fields : List Field) → fields_of table name ≡ Some fields → Means parts 0 space.Struct name (content.Struct name fields)

fits_taken : (parts : List Part) (old : Table) (s : StructSeen) (new : Table) → Means parts 0 space.Struct s.name.now (content.Struct s.name.now s.fields.now) → Fits parts old → IsTaken old s new → Fits parts new
fits_taken parts old s new means f t = let P : Table → Type 0 = λ x. Fits parts x in subst P (sym t.added) (record {
  made = (t.allowed, f.made);
  filled = All-cons (λ d. are_fields d.1 ≡ true) (s.name.now, s.fields.now) old t.filled f.filled;
  declared = λ name fields e. go name fields (bytes_eq s.name.now name) refl e;
}) where
  go : (name : Bytes) (fields : List Field) (b : Bool) → bytes_eq s.name.now name ≡ b → cond b (Some s.fields.now) (fields_of old name) ≡ Some fields → Means parts 0 space.Struct name (content.Struct name fields)
  go name fields true e h =
      let n : s.name.now ≡ name = (bytes_eq-Decides s.name.now name).0 e in
      let g : s.fields.now ≡ fields = cc in
      let P : Bytes → Type 0 = λ x. Means parts 0 space.Struct x (content.Struct x s.fields.now) in
      let Q : List Field → Type 0 = λ x. Means parts 0 space.Struct name (content.Struct name x) in
      subst Q g (subst P n means)
  go name fields false e h = f.declared name fields h

fits_grown : (parts : List Part) (among : List StructSeen) (old new : Table) → ((s : StructSeen) → Stands among s → Means parts 0 space.Struct s.name.now (content.Struct s.name.now s.fields.now)) → Fits parts old → Grows among old new
    → Fits parts new
fits_grown parts among old new means f same = f
fits_grown parts among old new means f (more {between = b} g s stands t) = fits_taken parts b s new (means s stands) (fits_grown parts among old b means f g) t

fits_none : (parts : List Part) → Fits parts []
fits_none parts = record { made = tt; filled = All-nil (λ d. are_fields d.1 ≡ true); declared = λ name fields e. no e } where
  no : {A : Type 0} {fields : List Field} → None ≡ Some fields → A
  no e = cc

meant_at : (view : View) (own : view.own ≡ 0) (structs : List StructSeen) → All (IsMeant view) structs → (s : StructSeen) → Stands structs s → Means view.parts.now 0 space.Struct s.name.now (content.Struct s.name.now s.fields.now)
meant_at view own structs all s stands =
    let at : get_or structs stands.0 s ≡ s = get_or_from_slice_get structs stands.0 s s stands.1 in
    let P : ℕ → Type 0 = λ k. Means view.parts.now k space.Struct s.name.now (content.Struct s.name.now s.fields.now) in
    let Q : StructSeen → Type 0 = λ x. IsMeant view x in
    subst P own (subst Q at (all stands.0 s (slice_get_within structs stands.0 s stands.1)))

stands_in : (structs : List StructSeen) (s : StructSeen) → Contains structs s → Stands structs s
stands_in structs s c = (c.0, slice_get-get_or structs c.0 s c.1 ∙ ap Some c.2)

pub has_structs : (view : View) → view.own ≡ 0 → IsUnambiguous view.parts.now 0 → (order ws left seen : List StructSeen) (empty first table : Table) → ws ≡ order → empty ≡ [] → All (IsMeant view) order → AreAllSeen view seen
    → Passes empty first ws left → Settles first table seen → HasStructs view.parts.now table
has_structs view own one order ws left seen empty first table tried nothing ordered all q settles = record {
  made = fits.made;
  filled = fits.filled;
  declared = fits.declared;
  most = λ name fields means filled lacks. most name fields means filled lacks (all.all name fields (subst (λ k. Means view.parts.now k space.Struct name (content.Struct name fields)) (sym own) means));
} where
  p : Passes [] first order left
  p = let P : List StructSeen → Type 0 = λ xs. Passes [] first xs left in let Q : Table → Type 0 = λ t. Passes t first ws left in subst P tried (subst Q nothing q)

  fits : Fits view.parts.now table
  fits = fits_grown view.parts.now seen first table (meant_at view own seen all.meant) (fits_grown view.parts.now order [] first (meant_at view own order ordered) (fits_none view.parts.now) p.grows) settles.grows

  most : (name : Bytes) (fields : List Field) → Means view.parts.now 0 space.Struct name (content.Struct name fields) → are_fields fields ≡ true → fields_of table name ≡ None
      → Names seen name → refusal table name fields ≢ None
  most name fields means filled lacks n refused =
      let stands = stands_in seen n.known n.stands in
      let e = one space.Struct name (content.Struct name n.known.fields.now) (content.Struct name fields)
      (subst (λ x. Means view.parts.now 0 space.Struct x (content.Struct x n.known.fields.now)) n.named (meant_at view own seen all.meant n.known stands)) means in
      let g : n.known.fields.now ≡ fields = cc in
      elim (settles.settled n.known stands) [
        | inl has ↦ no (sym has ∙ (ap (λ x. has_struct table x) n.named ∙ ap is_some lacks))
        | inr refuses ↦ refuses (ap are_fields g ∙ filled) (ap (λ x. refusal table x n.known.fields.now) n.named ∙ (ap (refusal table name) g ∙ refused))
      ] where
        no : true ≡ false → ⊥
        no h = cc

pub tried_refused : (old : Table) (s : StructSeen) (new : Table) (name : Bytes) (fields : List Field) → name ≡ s.name.now → fields ≡ s.fields.now → new ≡ old → (taken : Bool) → (taken ≡ false) × (refusal old name fields ≢ None)
    → IsTried old s new taken
tried_refused old s new name fields n f e true r = absurd (true≢false r.0) where
  true≢false : true ≡ false → ⊥
  true≢false h = cc
tried_refused old s new name fields n f e false r = (e, λ filled refused. r.1 (ap (λ x. refusal old x fields) n ∙ (ap (refusal old s.name.now) f ∙ refused)))
