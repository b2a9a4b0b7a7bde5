-- Sizes, one struct after another.
use Rattle.std.proofs.Common.{◌≡◌, ℕ, ◌+◌, ◌<◌, ◌≤◌, Bool, true, false, cond, List, [], ◌∷◌, ◌++◌, length, get_or, take, Option, Some, None, refl, sym, ap, ◌∙◌, subst, inl, inr, ◌⊎◌, arith, ltb, IsTrue, zero, suc}
use Rattle.std.specs.Prelude.{◌↔◌, MatchOption}
use Rattle.std.specs.List.{All, Contains, repeat}
use Rattle.std.specs.BTreeMap.{is_at}
use Rattle.std.specs.Cmp.Lexicographic.{slice_cmp}
use Rattle.std.specs.Map.{lookup}
use Rattle.std.specs.Option.{is_some}
use Rattle.std.specs.Ordering.{nat_cmp}
use Rattle.std.specs.Str.{bytes_eq}
use Rattle.std.proofs.lemmas.List.{length-append, take_more}
use Rattle.std.proofs.lemmas.List.Elements.{All-push, Contains-append_left, Contains-push, Contains-push_cases}
use Rattle.std.proofs.lemmas.Option.{same_Some, none-some}
use Rattle.std.proofs.lemmas.Slice.Eq.{bytes_eq-Decides}
use Rattle.std.proofs.lemmas.Bool.{cases_lt}
use Rattle.std.proofs.lemmas.Bool.Decides.{Decides-ltb}
use Rattle.vd_base.specs.declared.ctype.CType.{CType}
use Rattle.vd_base.specs.declared.ctype.CType.TheVariants as typ
use Rattle.vd_base.specs.declared.ctype.Field.{Field}
use Rattle.vd_base.specs.Layout.{most_cells}
use Rattle.vd_heads.specs.declared.view.View.{View}
use Rattle.vd_sized.specs.Cells.{HasCells, HaveCells}
use Rattle.vd_sized.specs.Cells as cells
use Rattle.vd_sized.specs.Counts.{Counts, CountsSome}
use Rattle.vd_sized.specs.Seen.{IsMeant}
use Rattle.vd_sized.specs.Sizes.{AreCounted, IsCounted, IsCountedOrWaits, Passes, Settles, SomeWaits, Waits, kept}
use Rattle.vd_sized.specs.Sizes as sized
use Rattle.vd_sized.specs.declared.leaves.Counted.{Counted}
use Rattle.vd_sized.specs.declared.order.StructSeen.{StructSeen}
use Rattle.vd_sized.specs.declared.size.Sizes.{Sizes}
use Rattle.vd_sized.proofs.Derivations.{one_field_more}

-- ---- what a match gives

pub match_some : {A : Type 0} (P : Type 0) (Q : A → Type 0) (o : Option A) (x : A) → o ≡ Some x → MatchOption o P Q → Q x
match_some P Q o x e m = subst (λ p. MatchOption p P Q) e m

pub match_none : {A : Type 0} (P : Type 0) (Q : A → Type 0) (o : Option A) → o ≡ None → MatchOption o P Q → P
match_none P Q o e m = subst (λ p. MatchOption p P Q) e m

-- ---- types

module _ (view : View) (sizes : Sizes) where
  pub of_kept : (t : CType) (name bytes : List ℕ) (c copy : Counted) → AreCounted view sizes → t ≡ typ.Struct name → bytes ≡ name → Some c ≡ kept sizes bytes → copy ≡ c
      → CountsSome sizes.most (HasCells view.parts.now view.own t) copy
  of_kept t name bytes c copy counted e f k g =
      subst (λ x. CountsSome sizes.most (HasCells view.parts.now view.own t) x) (sym g)
      (subst (λ x. CountsSome sizes.most (HasCells view.parts.now view.own x) c) (sym e) (counted name c (ap (kept sizes) (sym f) ∙ sym k)))

  pub of_array : (t of inner : CType) (n : ℕ) (element c : Counted) → t ≡ typ.Array of n → inner ≡ of → CountsSome sizes.most (HasCells view.parts.now view.own inner) element
      → ((ts : List CType) → Counts sizes.most ts element → Counts sizes.most (repeat n ts) c) → CountsSome sizes.most (HasCells view.parts.now view.own t) c
  of_array t of inner n element c e f h times = record {
    cells = repeat n h.cells;
    have = cells.array of n h.cells e (subst (λ x. HasCells view.parts.now view.own x h.cells) f h.have) refl;
    counts = times h.cells h.counts;
  }

  -- ---- fields

  pub no_fields : (c : Counted) → Counts sizes.most [] c → CountsSome sizes.most (HaveCells view.parts.now view.own []) c
  no_fields c h = record { cells = []; have = cells.no_field; counts = h }

  pub field_more : (fields : List Field) (i : ℕ) (f : Field) (a b c : Counted) → i < length fields → f ≡ get_or fields i f → CountsSome sizes.most (HaveCells view.parts.now view.own (take i fields)) a
      → CountsSome sizes.most (HasCells view.parts.now view.own f.typ) b → ((ts us : List CType) → Counts sizes.most ts a → Counts sizes.most us b → Counts sizes.most (ts ++ us) c)
      → CountsSome sizes.most (HaveCells view.parts.now view.own (take (i + 1) fields)) c
  field_more fields i f a b c lt is h k add =
      let next : take (i + 1) fields ≡ take i fields ++ f ∷ [] = take_more fields i f lt ∙ ap (λ y. take i fields ++ y ∷ []) (sym is) in
      subst (λ fs. CountsSome sizes.most (HaveCells view.parts.now view.own fs) c) (sym next)
      (record { cells = h.cells ++ k.cells; have = one_field_more view.parts.now view.own f k.cells h.have k.have; counts = add h.cells k.cells h.counts k.counts })

  pub some_waits : (fields : List Field) (i : ℕ) (f : Field) → i < length fields → f ≡ get_or fields i f → Waits view sizes f.typ → SomeWaits view sizes fields
  some_waits [] i f lt is w = absurd (omega arith)
  some_waits (g ∷ fields) zero f lt is w = sized.here (subst (λ x. Waits view sizes x.typ) is w)
  some_waits (g ∷ fields) (suc i) f lt is w = sized.there (some_waits fields i f (omega arith) is w)

-- ---- what waits has no cells, so fields of which one waits have none

pub no_together : (view : View) (sizes : Sizes) → ((t : CType) (ts : List CType) → HasCells view.parts.now view.own t ts → Waits view sizes t → ⊥) → {fs : List Field} {ts : List CType}
    → HaveCells view.parts.now view.own fs ts → SomeWaits view sizes fs → ⊥
no_together view sizes none cells.no_field w = elim w [ ]
no_together view sizes none (cells.field_then {f} us vs a b e) (sized.here w) = none f.typ us a w
no_together view sizes none (cells.field_then us vs a b e) (sized.there w) = no_together view sizes none b w

-- nothing is counted at first
pub none_counted : (view : View) (sizes : Sizes) → sizes.known.entries ≡ [] → AreCounted view sizes
none_counted view sizes e name c k = absurd (none-some c (sym (ap (λ es. lookup (is_at (λ x. slice_cmp nat_cmp name x.now)) es) e) ∙ k))

-- ---- one struct

module _ (view : View) (old new : Sizes) (s : StructSeen) where
  pub is_there : (r : Bool) → new ≡ old → AreCounted view old → r ≡ true → r ≡ is_some (kept old s.name.now) → IsCountedOrWaits view old old s true
  is_there r e counted t f = record { counted = counted; most = refl; grows = λ n h. h; which = sym f ∙ t }

  pub is_waiting : AreCounted view old → SomeWaits view old s.fields.now → IsCountedOrWaits view old old s false
  is_waiting counted w = record { counted = counted; most = refl; grows = λ n h. h; which = (refl, w) }

  module _ (c : Counted) (counted : AreCounted view old) (meant : IsMeant view s) (same : new.most ≡ old.most) (has : CountsSome old.most (HaveCells view.parts.now view.own s.fields.now) c)
      (updated : (other : List ℕ) → kept new other ≡ cond (bytes_eq s.name.now other) (Some c) (kept old other)) where
    new_counts : CountsSome new.most (HasCells view.parts.now view.own (typ.Struct s.name.now)) c
    new_counts = subst (λ m. CountsSome m (HasCells view.parts.now view.own (typ.Struct s.name.now)) c) (sym same)
        (record { cells = has.cells; have = cells.struct s.name.now s.fields.now refl meant has.have; counts = has.counts })

    counted_at : (n : List ℕ) (d : Counted) (b : Bool) → bytes_eq s.name.now n ≡ b → kept new n ≡ Some d → CountsSome new.most (HasCells view.parts.now view.own (typ.Struct n)) d
    counted_at n d true e k =
        let same_d : c ≡ d = same_Some c d (sym (updated n ∙ ap (λ b. cond b (Some c) (kept old n)) e) ∙ k) in
        subst (λ x. CountsSome new.most (HasCells view.parts.now view.own (typ.Struct n)) x) same_d
        (subst (λ x. CountsSome new.most (HasCells view.parts.now view.own (typ.Struct x)) c) ((bytes_eq-Decides s.name.now n).0 e) new_counts)
    counted_at n d false e k =
        subst (λ m. CountsSome m (HasCells view.parts.now view.own (typ.Struct n)) d) (sym same)
        (counted n d (sym (updated n ∙ ap (λ b. cond b (Some c) (kept old n)) e) ∙ k))

    grows_at : (n : List ℕ) (b : Bool) → bytes_eq s.name.now n ≡ b → IsCounted old n → IsCounted new n
    grows_at n true e h = ap (λ o. is_some o) (updated n ∙ ap (λ b. cond b (Some c) (kept old n)) e)
    grows_at n false e h = ap (λ o. is_some o) (updated n ∙ ap (λ b. cond b (Some c) (kept old n)) e) ∙ h

    pub is_new : IsCountedOrWaits view old new s true
    is_new = record {
      counted = λ n d k. counted_at n d (bytes_eq s.name.now n) refl k;
      most = same;
      grows = λ n h. grows_at n (bytes_eq s.name.now n) refl h;
      which = ap (λ o. is_some o) (updated s.name.now ∙ ap (λ b. cond b (Some c) (kept old s.name.now)) ((bytes_eq-Decides s.name.now s.name.now).1 refl));
    }

-- ---- a pass

pub passes_none : (view : View) (old : Sizes) → AreCounted view old → Passes view old old [] []
passes_none view old counted = record {
  counted = counted;
  most = refl;
  grows = λ n h. h;
  meant = λ k d lt. absurd (omega arith);
  rest = λ s h. absurd (omega (arith, h.1));
  shorter = omega arith;
  still = λ e k d lt. absurd (omega arith);
}

module _ (view : View) (old mid new : Sizes) (waiting left : List StructSeen) (s : StructSeen) (p : Passes view old mid waiting left) where
  long : length (waiting ++ s ∷ []) ≡ length waiting + 1
  long = omega (arith, length-append waiting (s ∷ []))

  pub passes_counted : IsCountedOrWaits view mid new s true → Passes view old new (waiting ++ s ∷ []) left
  passes_counted step = record {
    counted = step.counted;
    most = step.most ∙ p.most;
    grows = λ n h. step.grows n (p.grows n h);
    meant = p.meant;
    rest = λ x h. elim (Contains-push_cases waiting s x h) [
      | inl before ↦ elim (p.rest x before) [ inl counted ↦ inl (step.grows x.name.now counted) | inr stays ↦ inr stays ]
      | inr same ↦ inl (subst (λ y. IsCounted new y.name.now) same step.which)
    ];
    shorter = omega (arith, long, p.shorter);
    still = λ e. absurd (omega (arith, long, p.shorter));
  }

  pub passes_left : IsCountedOrWaits view mid new s false → IsMeant view s → Passes view old new (waiting ++ s ∷ []) (left ++ s ∷ [])
  passes_left step meant = record {
    counted = step.counted;
    most = step.most ∙ p.most;
    grows = λ n h. step.grows n (p.grows n h);
    meant = All-push (IsMeant view) left s p.meant meant;
    rest = λ x h. elim (Contains-push_cases waiting s x h) [
      | inl before ↦ elim (p.rest x before) [ inl counted ↦ inl (step.grows x.name.now counted) | inr stays ↦ inr (Contains-append_left left (s ∷ []) x stays) ]
      | inr same ↦ inr (subst (λ y. Contains (left ++ s ∷ []) y) same (Contains-push left s))
    ];
    shorter = omega (arith, long, p.shorter, length-append left (s ∷ []));
    still = λ e. subst (λ z. All (λ x. SomeWaits view z x.fields.now) (left ++ s ∷ [])) (sym step.which.0)
        (All-push (λ x. SomeWaits view mid x.fields.now) left s (p.still (omega (arith, long, length-append left (s ∷ [])))) step.which.1);
  }

-- ---- passes until all that are left wait

-- each struct is counted, or stands among those that wait
pub record Settling (view : View) (old now : Sizes) (seen waiting : List StructSeen) : Type 0 where
  pub counted : AreCounted view now
  pub most : now.most ≡ old.most
  pub meant : All (IsMeant view) waiting
  pub rest : (s : StructSeen) → Contains seen s → IsCounted now s.name.now ⊎ Contains waiting s

pub settling_begins : (view : View) (old : Sizes) (seen : List StructSeen) → AreCounted view old → All (IsMeant view) seen → Settling view old old seen seen
settling_begins view old seen counted meant = record { counted = counted; most = refl; meant = meant; rest = λ s h. inr h }

module _ (view : View) (old now new : Sizes) (seen waiting left : List StructSeen) (so_far : Settling view old now seen waiting) (p : Passes view now new waiting left) where
  pub settling_goes_on : Settling view old new seen left
  settling_goes_on = record {
    counted = p.counted;
    most = p.most ∙ so_far.most;
    meant = p.meant;
    rest = λ s h. elim (so_far.rest s h) [ inl counted ↦ inl (p.grows s.name.now counted) | inr waits ↦ p.rest s waits ];
  }

  pub settling_ends : length left ≡ length waiting → Settles view old new seen
  settling_ends e = record {
    counted = p.counted;
    most = p.most ∙ so_far.most;
    settled = λ s h. elim (settling_goes_on.rest s h) [
      | inl counted ↦ inl counted
      | inr stays ↦ inr (subst (λ x. SomeWaits view new x.fields.now) stays.2 (p.still e stays.0 s stays.1))
    ];
  }

-- ---- what is too large

module _ (H : List CType → Type 0) (one : (ts us : List CType) → H ts → H us → ts ≡ us) (most : ℕ) (c : Counted) (h : CountsSome most H c) where
  pub over : most_cells < c.count → (ts : List CType) → H ts → length ts ≤ most_cells → ⊥
  over more ts d le = omega (arith, h.counts.count, ap length (one ts h.cells d h.have))

  pub not_over : c.count ≤ most_cells → ((ts : List CType) → H ts → length ts ≤ most_cells → ⊥) → ⊥
  not_over few none = none h.cells h.have (omega (arith, h.counts.count))

  pub is_over : (b : Bool) → b ≡ ltb most_cells c.count → IsTrue b ↔ ((ts : List CType) → H ts → length ts ≤ most_cells → ⊥)
  is_over b e = (
    λ t. over ((Decides-ltb most_cells c.count).0 (sym e ∙ t)),
    λ n. elim (cases_lt most_cells c.count) [ inl lt ↦ e ∙ (Decides-ltb most_cells c.count).1 lt | inr le ↦ absurd (not_over le n) ],
  )

-- ---- one struct more in a pass

module _ (view : View) (old mid new : Sizes) (waiting left after : List StructSeen) (i : ℕ) (s : StructSeen) (is_done : Bool) (lt : i < length waiting) (is : s ≡ get_or waiting i s)
    (p : Passes view old mid (take i waiting) left) (step : IsCountedOrWaits view mid new s is_done) where
  next : take (i + 1) waiting ≡ take i waiting ++ s ∷ []
  next = take_more waiting i s lt ∙ ap (λ y. take i waiting ++ y ∷ []) (sym is)

  pub goes_left : is_done ≡ false → IsMeant view s → after ≡ left ++ s ∷ [] → Passes view old new (take (i + 1) waiting) after
  goes_left e meant put =
      subst (λ w. Passes view old new w after) (sym next) (subst (λ l. Passes view old new (take i waiting ++ s ∷ []) l) (sym put)
      (passes_left view old mid new (take i waiting) left s p (subst (IsCountedOrWaits view mid new s) e step) meant))

  pub goes_by : is_done ≡ true → after ≡ left → Passes view old new (take (i + 1) waiting) after
  goes_by e put =
      subst (λ w. Passes view old new w after) (sym next) (subst (λ l. Passes view old new (take i waiting ++ s ∷ []) l) (sym put)
      (passes_counted view old mid new (take i waiting) left s p (subst (IsCountedOrWaits view mid new s) e step)))
