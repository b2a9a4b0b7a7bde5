-- Tables of declarations: what one more declaration makes of them.
use Rattle.std.proofs.Common.{◌≡◌, ℕ, suc, ◌+◌, ◌<◌, ◌≤◌, ◌↔◌, inl, inr, Bool, true, false, not, ◌&&◌, cond, eqb, List, [], ◌∷◌, ◌++◌, length, take, get_or, Option, None, Some, Result, Ok, Err, OnOk, Bor, refl, ap, sym, ◌∙◌, subst, arith, zero-add, ltb, length-append, append_assoc}
use Rattle.std.proofs.Math.Path.{fun_ext}
use Rattle.std.proofs.lemmas.List.{append-nil, take_more, length-take-le}
use Rattle.std.proofs.lemmas.List.Folds.{position_or_len_push}
use Rattle.std.proofs.lemmas.List.Sums.{prefix_len-le-length}
use Rattle.std.proofs.lemmas.List.Elements.{Contains-append_left, Contains-push, Contains-push_cases}
use Rattle.std.proofs.lemmas.Map.Text.{btree_map_updates_str}
use Rattle.std.proofs.lemmas.Slice.Eq.{bytes_eq-Decides}
use Rattle.std.proofs.lemmas.Bool.Decides.{nat_tests}
use Rattle.std.specs.BTreeMap.{BTreeMap, get_by, UpdatesBy}
use Rattle.std.specs.Cmp.Lexicographic.{slice_cmp}
use Rattle.std.specs.declared.alloc.AllocError.{AllocError}
use Rattle.std.specs.List.{Contains, position, position_or_len}
use Rattle.std.specs.Option.{unwrap_or, option_or, is_some}
use Rattle.std.specs.Ordering.{nat_cmp}
use Rattle.std.specs.Str.{bytes_eq}
use Rattle.vd_outline.specs.declared.outline.TextKind.{TextKind}
use Rattle.vd_outline.specs.declared.outline.TextKind.TheVariants as text
use Rattle.vd_heads.specs.declared.content.Content.{Content}
use Rattle.vd_heads.specs.declared.content.HeadSection.{HeadSection}
use Rattle.vd_heads.specs.declared.content.Part.{Part}
use Rattle.vd_heads.specs.declared.table.Declarations.{Declarations}
use Rattle.vd_heads.specs.declared.table.Space.{Space}
use Rattle.vd_heads.specs.declared.table.Space.TheVariants as space
use Rattle.vd_heads.specs.declared.table.Spot.{Spot}
use Rattle.vd_heads.specs.declared.table.Table.{Table}
use Rattle.vd_heads.specs.Closure.{heads_interface, interface_name, interface_at}
use Rattle.vd_heads.specs.Declaration.{Bytes, same_space, declaration, declares, is_that}
use Rattle.vd_heads.specs.Views.{AreDeclarations, IsTable, in_space, interface_in, spots_in, shared_names, spots_in_part, spots_from, spots_of}

-- what a map keyed by names has at a name
abbrev pub at_name : {X : Type 0} → BTreeMap (Bor Bytes) X → Bytes → Option X
at_name m name = get_by (λ k. slice_cmp nat_cmp name k.now) m

-- m becomes n by a change at one name
abbrev pub Changes : {X : Type 0} → Bytes → BTreeMap (Bor Bytes) X → BTreeMap (Bor Bytes) X → Option X → Type 0
Changes name m n w = UpdatesBy (λ x y. slice_cmp nat_cmp x.now y.now) (λ k. slice_cmp nat_cmp name k.now) m n w

-- taken out and put again
put_again : {X : Type 0} (name : Bytes) (m r n : BTreeMap (Bor Bytes) X) (w : X) → Changes name m r None → Changes name r n (Some w) → (other : Bytes)
    → at_name n other ≡ cond (bytes_eq name other) (Some w) (at_name m other)
put_again name m r n w taken put other = btree_map_updates_str name r n (Some w) put other ∙ go (bytes_eq name other) (btree_map_updates_str name m r None taken other) where
  go : (b : Bool) → at_name r other ≡ cond b None (at_name m other) → cond b (Some w) (at_name r other) ≡ cond b (Some w) (at_name m other)
  go true e = refl
  go false e = e

spots_again : (name : Bytes) (m r n : BTreeMap (Bor Bytes) (List Spot)) (spots : List Spot) (spot : Spot) → Changes name m r None → Changes name r n (Some (spots ++ spot ∷ [])) → spots ≡ unwrap_or (at_name m name) []
    → (other : Bytes) → unwrap_or (at_name n other) [] ≡ cond (bytes_eq name other) (unwrap_or (at_name m other) [] ++ spot ∷ []) (unwrap_or (at_name m other) [])
spots_again name m r n spots spot taken put was other = ap (λ o. unwrap_or o []) (put_again name m r n (spots ++ spot ∷ []) taken put other) ∙ go (bytes_eq name other) refl where
  go : (b : Bool) → bytes_eq name other ≡ b → unwrap_or (cond b (Some (spots ++ spot ∷ [])) (at_name m other)) [] ≡ cond b (unwrap_or (at_name m other) [] ++ spot ∷ []) (unwrap_or (at_name m other) [])
  go true e = ap (λ s. s ++ spot ∷ []) (was ∙ ap (λ x. unwrap_or (at_name m x) []) ((bytes_eq-Decides name other).0 e))
  go false e = refl

-- the same, where the name was read again and the map lay elsewhere meanwhile
pub spots_put : (name key : Bytes) (m r k n : BTreeMap (Bor Bytes) (List Spot)) (spots all : List Spot) (spot : Spot) → key ≡ name → k ≡ r → all ≡ spots ++ spot ∷ [] → Changes key m r None
    → Changes key k n (Some all) → spots ≡ unwrap_or (at_name m key) []
    → (other : Bytes) → unwrap_or (at_name n other) [] ≡ cond (bytes_eq name other) (unwrap_or (at_name m other) [] ++ spot ∷ []) (unwrap_or (at_name m other) [])
spots_put name key m r k n spots all spot e f g taken put was other =
    let put_r : Changes key r n (Some (spots ++ spot ∷ [])) = subst (λ x. Changes key r n (Some x)) g (subst (λ x. Changes key x n (Some all)) f put) in
    subst (λ x. unwrap_or (at_name n other) [] ≡ cond (bytes_eq x other) (unwrap_or (at_name m other) [] ++ spot ∷ []) (unwrap_or (at_name m other) [])) e
    (spots_again key m r n spots spot taken put_r was other)

-- ---- names that stand more than once

shared_same : (name : Bytes) (shared new : List Bytes) (before : List Spot) (spot : Spot) (count : ℕ) → count ≡ length before → (Contains shared name ↔ (2 ≤ length before)) → (t : Bool) → eqb count 1 ≡ t
    → new ≡ cond t (shared ++ name ∷ []) shared → Contains new name ↔ (2 ≤ length (before ++ spot ∷ []))
shared_same name shared new before spot count c h true o is =
    let one : length before ≡ 1 = grind (arith, nat_tests) in
    (λ k. omega (arith, length-append before (spot ∷ [])), λ k. subst (λ x. Contains x name) (sym is) (Contains-push shared name))
shared_same name shared new before spot count c h false o is = (
  λ k. let m : 2 ≤ length before = h.0 (subst (λ x. Contains x name) is k) in omega (arith, length-append before (spot ∷ [])),
  λ k. let m : 2 ≤ length before = (let l = length-append before (spot ∷ []) in grind (arith, nat_tests)) in subst (λ x. Contains x name) (sym is) (h.1 m),
)

shared_other : (name n : Bytes) (shared new : List Bytes) (t : Bool) → bytes_eq name n ≡ false → new ≡ cond t (shared ++ name ∷ []) shared → Contains new n ↔ Contains shared n
shared_other name n shared new true e is = (
  λ k. elim (Contains-push_cases shared name n (subst (λ x. Contains x n) is k)) [ inl s ↦ s | inr s ↦ absurd (let f = (bytes_eq-Decides name n).1 s in cc) ],
  λ k. subst (λ x. Contains x n) (sym is) (Contains-append_left shared (name ∷ []) n k),
)
shared_other name n shared new false e is = (λ k. subst (λ x. Contains x n) is k, λ k. subst (λ x. Contains x n) (sym is) k)

-- one declaration more
pub declarations_more : (places : Bytes → List Spot) (old new : Declarations) (name : Bytes) (spot : Spot) → AreDeclarations places old
    → ((other : Bytes) → spots_in new other ≡ cond (bytes_eq name other) (spots_in old other ++ spot ∷ []) (spots_in old other))
    → shared_names new ≡ cond (eqb (length (spots_in old name)) 1) (shared_names old ++ name ∷ []) (shared_names old)
    → AreDeclarations (λ other. cond (bytes_eq name other) (places other ++ spot ∷ []) (places other)) new
declarations_more places old new name spot h spots shared = record {
  spots = λ other. spots other ∙ ap (λ x. cond (bytes_eq name other) (x ++ spot ∷ []) x) (h.spots other);
  shared = λ other. go (bytes_eq name other) other refl;
} where
  go : (b : Bool) (other : Bytes) → bytes_eq name other ≡ b → Contains (shared_names new) other ↔ (2 ≤ length (cond b (places other ++ spot ∷ []) (places other)))
  go true other e =
      let same : name ≡ other = (bytes_eq-Decides name other).0 e in
      subst (λ x. Contains (shared_names new) x ↔ (2 ≤ length (places x ++ spot ∷ []))) same
      (shared_same name (shared_names old) (shared_names new) (places name) spot (length (spots_in old name)) (ap length (h.spots name)) (h.shared name) (eqb (length (spots_in old name)) 1) refl shared)
  go false other e =
      let s = shared_other name other (shared_names old) (shared_names new) (eqb (length (spots_in old name)) 1) e shared in
      (λ k. (h.shared other).0 (s.0 k), λ k. s.1 ((h.shared other).1 k))

-- ---- one section after the other

pub in_place : (space : Space) (s : Space) → same_space s space ≡ true → s ≡ space
in_place space.Struct space.Struct e = refl
in_place space.Global space.Global e = refl
in_place space.Function space.Function e = refl
in_place space.Predicate space.Predicate e = refl
in_place space.Struct space.Global e = cc
in_place space.Struct space.Function e = cc
in_place space.Struct space.Predicate e = cc
in_place space.Global space.Struct e = cc
in_place space.Global space.Function e = cc
in_place space.Global space.Predicate e = cc
in_place space.Function space.Struct e = cc
in_place space.Function space.Global e = cc
in_place space.Function space.Predicate e = cc
in_place space.Predicate space.Struct e = cc
in_place space.Predicate space.Global e = cc
in_place space.Predicate space.Function e = cc

-- what one space more declares, where the others stay
pub spaces_more : (space : Space) (places : Space → Bytes → List Spot) (old new : Table) (name : Bytes) (spot : Spot) → ((s : Space) → AreDeclarations (places s) (in_space s old))
    → ((s : Space) → same_space s space ≡ false → in_space s new ≡ in_space s old)
    → ((other : Bytes) → spots_in (in_space space new) other ≡ cond (bytes_eq name other) (spots_in (in_space space old) other ++ spot ∷ []) (spots_in (in_space space old) other))
    → shared_names (in_space space new) ≡ cond (eqb (length (spots_in (in_space space old) name)) 1) (shared_names (in_space space old) ++ name ∷ []) (shared_names (in_space space old))
    → (s : Space) → AreDeclarations (λ other. cond (same_space s space && bytes_eq name other) (places s other ++ spot ∷ []) (places s other)) (in_space s new)
spaces_more space places old new name spot h others spots shared s = go (same_space s space) refl where
  go : (b : Bool) → same_space s space ≡ b → AreDeclarations (λ other. cond (b && bytes_eq name other) (places s other ++ spot ∷ []) (places s other)) (in_space s new)
  go true e = subst (λ x. AreDeclarations (λ other. cond (bytes_eq name other) (places x other ++ spot ∷ []) (places x other)) (in_space x new)) (sym (in_place space s e))
      (declarations_more (places space) (in_space space old) (in_space space new) name spot (h space) spots shared)
  go false e = subst (AreDeclarations (places s)) (sym (others s e)) (h s)

-- a table with other declarations in one space
abbrev pub with_space : Space → Declarations → Table → Table
with_space space.Struct d t = record { structs = d; globals = t.globals; functions = t.functions; predicates = t.predicates; interfaces = t.interfaces }
with_space space.Global d t = record { structs = t.structs; globals = d; functions = t.functions; predicates = t.predicates; interfaces = t.interfaces }
with_space space.Function d t = record { structs = t.structs; globals = t.globals; functions = d; predicates = t.predicates; interfaces = t.interfaces }
with_space space.Predicate d t = record { structs = t.structs; globals = t.globals; functions = t.functions; predicates = d; interfaces = t.interfaces }

placed : (space : Space) (d : Declarations) (t : Table) → in_space space (with_space space d t) ≡ d
placed space.Struct d t = refl
placed space.Global d t = refl
placed space.Function d t = refl
placed space.Predicate d t = refl

stays : (space : Space) (d : Declarations) (t : Table) (s : Space) → same_space s space ≡ false → in_space s (with_space space d t) ≡ in_space s t
stays space.Struct d t space.Struct e = cc
stays space.Struct d t space.Global e = refl
stays space.Struct d t space.Function e = refl
stays space.Struct d t space.Predicate e = refl
stays space.Global d t space.Struct e = refl
stays space.Global d t space.Global e = cc
stays space.Global d t space.Function e = refl
stays space.Global d t space.Predicate e = refl
stays space.Function d t space.Struct e = refl
stays space.Function d t space.Global e = refl
stays space.Function d t space.Function e = cc
stays space.Function d t space.Predicate e = refl
stays space.Predicate d t space.Struct e = refl
stays space.Predicate d t space.Global e = refl
stays space.Predicate d t space.Function e = refl
stays space.Predicate d t space.Predicate e = cc

-- one declaration more in a space of the table
pub table_with : (space own : Space) → own ≡ space → (places : Space → Bytes → List Spot) (t : Table) (d : Declarations) (name : Bytes) (spot : Spot) (r : Result (Unit {0}) AllocError)
    → ((s : Space) → AreDeclarations (places s) (in_space s t))
    → OnOk r ((other : Bytes) → spots_in d other ≡ cond (bytes_eq name other) (spots_in (in_space space t) other ++ spot ∷ []) (spots_in (in_space space t) other))
    → OnOk r (shared_names d ≡ cond (eqb (length (spots_in (in_space space t) name)) 1) (shared_names (in_space space t) ++ name ∷ []) (shared_names (in_space space t)))
    → OnOk r ((s : Space) → AreDeclarations (λ other. cond (same_space s own && bytes_eq name other) (places s other ++ spot ∷ []) (places s other)) (in_space s (with_space space d t)))
table_with space own is places t d name spot (Err e) h spots shared = tt
table_with space own is places t d name spot (Ok x) h spots shared =
    let p : d ≡ in_space space (with_space space d t) = sym (placed space d t) in
    subst (λ o. (s : Space) → AreDeclarations (λ other. cond (same_space s o && bytes_eq name other) (places s other ++ spot ∷ []) (places s other)) (in_space s (with_space space d t))) (sym is)
    (spaces_more space places t (with_space space d t) name spot h (stays space d t)
    (subst (λ x. (other : Bytes) → spots_in x other ≡ cond (bytes_eq name other) (spots_in (in_space space t) other ++ spot ∷ []) (spots_in (in_space space t) other)) p spots)
    (subst (λ x. shared_names x ≡ cond (eqb (length (spots_in (in_space space t) name)) 1) (shared_names (in_space space t) ++ name ∷ []) (shared_names (in_space space t))) p shared))

-- what a section declares, and nothing else
pub declared_some : (content : Content) (space : Space) (name : Bytes) (places : Space → Bytes → List Spot) (spot : Spot) (t : Table) → declaration content ≡ Some (space, name)
    → ((s : Space) → AreDeclarations (λ other. cond (same_space s space && bytes_eq name other) (places s other ++ spot ∷ []) (places s other)) (in_space s t))
    → (s : Space) → AreDeclarations (λ other. cond (declares s other content) (places s other ++ spot ∷ []) (places s other)) (in_space s t)
declared_some content space name places spot t e h s = subst (λ o. AreDeclarations (λ other. cond (is_that s other o) (places s other ++ spot ∷ []) (places s other)) (in_space s t)) (sym e) (h s)

pub declared_none : (content : Content) (places : Space → Bytes → List Spot) (spot : Spot) (t : Table) → declaration content ≡ None → ((s : Space) → AreDeclarations (places s) (in_space s t))
    → (s : Space) → AreDeclarations (λ other. cond (declares s other content) (places s other ++ spot ∷ []) (places s other)) (in_space s t)
declared_none content places spot t e h s = subst (λ o. AreDeclarations (λ other. cond (is_that s other o) (places s other ++ spot ∷ []) (places s other)) (in_space s t)) (sym e) (h s)

-- of a result that is no failure, what a fact says
pub on_ok_more : {T E A B : Type 0} (r : Result T E) → (A → B) → OnOk r A → OnOk r B
on_ok_more (Ok x) f a = f a
on_ok_more (Err e) f a = tt

pub spots_append : (s : Space) (name : Bytes) (k i : ℕ) (hs gs : List HeadSection) → spots_in_part s name k i (hs ++ gs) ≡ spots_in_part s name k i hs ++ spots_in_part s name k (i + length hs) gs
spots_append s name k i [] gs = let e : i ≡ i + 0 = omega arith in ap (λ j. spots_in_part s name k j gs) e
spots_append s name k i (h ∷ hs) gs = go (declares s name h.content) (spots_append s name k (suc i) hs gs ∙ ap (λ j. spots_in_part s name k (suc i) hs ++ spots_in_part s name k j gs) e) where
  e : suc i + length hs ≡ i + suc (length hs)
  e = omega arith

  go : (b : Bool) → spots_in_part s name k (suc i) (hs ++ gs) ≡ spots_in_part s name k (suc i) hs ++ spots_in_part s name k (i + suc (length hs)) gs
      → cond b (record { part = k; section = i } ∷ spots_in_part s name k (suc i) (hs ++ gs)) (spots_in_part s name k (suc i) (hs ++ gs))
      ≡ cond b (record { part = k; section = i } ∷ spots_in_part s name k (suc i) hs) (spots_in_part s name k (suc i) hs) ++ spots_in_part s name k (i + suc (length hs)) gs
  go true rest = ap (λ x. record { part = k; section = i } ∷ x) rest
  go false rest = rest

-- the sections up to one more
pub spots_next : (s : Space) (name : Bytes) (k n : ℕ) (hs : List HeadSection) (h : HeadSection) → n < length hs → h ≡ get_or hs n h
    → spots_in_part s name k 0 (take (n + 1) hs) ≡ cond (declares s name h.content) (spots_in_part s name k 0 (take n hs) ++ record { part = k; section = n } ∷ []) (spots_in_part s name k 0 (take n hs))
spots_next s name k n hs h below at =
    ap (spots_in_part s name k 0) (take_more hs n h below ∙ ap (λ x. take n hs ++ x ∷ []) (sym at)) ∙ (spots_append s name k 0 (take n hs) (h ∷ [])
    ∙ (ap (λ j. spots_in_part s name k 0 (take n hs) ++ spots_in_part s name k j (h ∷ [])) (zero-add (length (take n hs)) ∙ length-take-le n hs (omega arith)) ∙ go (declares s name h.content))) where
      go : (b : Bool) → spots_in_part s name k 0 (take n hs) ++ cond b (record { part = k; section = n } ∷ []) [] ≡ cond b (spots_in_part s name k 0 (take n hs) ++ record { part = k; section = n } ∷ []) (spots_in_part s name k 0 (take n hs))
      go true = refl
      go false = append-nil (spots_in_part s name k 0 (take n hs))

-- what the sections up to one more declare
pub sections_next : (places : Space → Bytes → List Spot) (k n : ℕ) (hs : List HeadSection) (h : HeadSection) (t : Table) → n < length hs → h ≡ get_or hs n h
    → ((s : Space) → AreDeclarations (λ name. cond (declares s name h.content) ((places s name ++ spots_in_part s name k 0 (take n hs)) ++ record { part = k; section = n } ∷ []) (places s name ++ spots_in_part s name k 0 (take n hs))) (in_space s t))
    → (s : Space) → AreDeclarations (λ name. places s name ++ spots_in_part s name k 0 (take (n + 1) hs)) (in_space s t)
sections_next places k n hs h t below at all s = subst (λ f. AreDeclarations f (in_space s t)) (fun_ext (λ name. go (declares s name h.content) name ∙ ap (λ x. places s name ++ x) (sym (spots_next s name k n hs h below at)))) (all s) where
  go : (b : Bool) (name : Bytes) → cond b ((places s name ++ spots_in_part s name k 0 (take n hs)) ++ record { part = k; section = n } ∷ []) (places s name ++ spots_in_part s name k 0 (take n hs))
      ≡ places s name ++ cond b (spots_in_part s name k 0 (take n hs) ++ record { part = k; section = n } ∷ []) (spots_in_part s name k 0 (take n hs))
  go true name = append_assoc (places s name) (spots_in_part s name k 0 (take n hs)) (record { part = k; section = n } ∷ [])
  go false name = refl

-- ---- one part after the other

position_next : (m n k l : ℕ) (b : Bool) → k ≡ cond (eqb m n) (n + cond b 0 1) m → l ≡ n + 1 → m ≤ n → cond (ltb k l) (Some k) None ≡ option_or (cond (ltb m n) (Some m) None) (cond b (Some n) None)
position_next m n k l true e f g = grind (arith, nat_tests)
position_next m n k l false e f g = grind (arith, nat_tests)

pub position_more : {A : Type 0} (p : A → Bool) (xs : List A) (y : A) → position p (xs ++ y ∷ []) ≡ option_or (position p xs) (cond (p y) (Some (length xs)) None)
position_more p xs y = position_next (position_or_len p xs) (length xs) (position_or_len p (xs ++ y ∷ [])) (length (xs ++ y ∷ [])) (p y) (position_or_len_push p xs y) (length-append xs (y ∷ [])) (prefix_len-le-length (λ x. not (p x)) xs)

pub spots_of_more : (parts : List Part) (p : Part) (s : Space) (name : Bytes) → spots_of (parts ++ p ∷ []) s name ≡ spots_of parts s name ++ spots_in_part s name (length parts) 0 p.sections
spots_of_more parts p s name = go 0 parts ∙ ap (λ k. spots_of parts s name ++ spots_in_part s name k 0 p.sections) (zero-add (length parts)) where
  go : (k : ℕ) (ps : List Part) → spots_from s name k (ps ++ p ∷ []) ≡ spots_from s name k ps ++ spots_in_part s name (k + length ps) 0 p.sections
  go k [] = let e : k ≡ k + 0 = omega arith in append-nil (spots_in_part s name k 0 p.sections) ∙ ap (λ j. spots_in_part s name j 0 p.sections) e
  go k (q ∷ ps) =
      let e : suc k + length ps ≡ k + suc (length ps) = omega arith in
      ap (λ x. spots_in_part s name k 0 q.sections ++ x) (go (suc k) ps ∙ ap (λ j. spots_from s name (suc k) ps ++ spots_in_part s name j 0 p.sections) e)
      ∙ sym (append_assoc (spots_in_part s name k 0 q.sections) (spots_from s name (suc k) ps) (spots_in_part s name (k + suc (length ps)) 0 p.sections))

-- what the sections of a part add to the table of the parts before it
pub table_more : (parts : List Part) (p : Part) (hs : List HeadSection) (old middle new : Table) (number : ℕ) → length parts ≡ number → hs ≡ p.sections → IsTable parts old
    → ((name : Bytes) → interface_in middle name ≡ option_or (interface_in old name) (cond (heads_interface name p.head) (Some number) None)) → new.interfaces ≡ middle.interfaces
    → ((s : Space) → AreDeclarations (λ name. spots_of parts s name ++ spots_in_part s name number 0 hs) (in_space s new))
    → IsTable (parts ++ p ∷ []) new
table_more parts p hs old middle new number e f h interfaces kept sections = record {
  declarations = λ s. subst (λ g. AreDeclarations g (in_space s new)) (fun_ext (λ name. ap (λ k. spots_of parts s name ++ spots_in_part s name k 0 hs) (sym e) ∙ (ap (λ x. spots_of parts s name ++ spots_in_part s name (length parts) 0 x) f ∙ sym (spots_of_more parts p s name))))
      (sections s);
  interfaces = λ name. ap (λ m. get_by (λ k. slice_cmp nat_cmp name k.now) m) kept ∙ (interfaces name
      ∙ (ap (λ o. option_or o (cond (heads_interface name p.head) (Some number) None)) (h.interfaces name)
      ∙ (ap (λ k. option_or (interface_at parts name) (cond (heads_interface name p.head) (Some k) None)) (sym e) ∙ sym (position_more (λ q. heads_interface name q.head) parts p))));
}

-- the declarations of the parts, where the table's spaces stayed as they were
pub declarations_kept : (parts : List Part) (old new : Table) → IsTable parts old → ((s : Space) → in_space s new ≡ in_space s old) → (s : Space) → AreDeclarations (spots_of parts s) (in_space s new)
declarations_kept parts old new h same s = subst (AreDeclarations (spots_of parts s)) (sym (same s)) (h.declarations s)

-- ---- interfaces

named_so : Bytes → Option Bytes → Bool
named_so other None = false
named_so other (Some name) = bytes_eq name other

heads_by_name : (other : Bytes) (head : Option (TextKind × Bytes)) → heads_interface other head ≡ named_so other (interface_name head)
unfolding named_so
heads_by_name other None = refl
heads_by_name other (Some (text.Interface, name)) = refl
heads_by_name other (Some (text.Unit, name)) = refl
heads_by_name other (Some (text.Link, name)) = refl

option_or-none : {A : Type 0} (o : Option A) → option_or o None ≡ o
option_or-none None = refl
option_or-none (Some x) = refl

pub interface_put : (m n : BTreeMap (Bor Bytes) ℕ) (head : Option (TextKind × Bytes)) (number : ℕ) (name key : Bytes) → key ≡ name → interface_name head ≡ Some name → is_some (at_name m key) ≡ false → Changes key m n (Some number)
    → (other : Bytes) → at_name n other ≡ option_or (at_name m other) (cond (heads_interface other head) (Some number) None)
unfolding named_so
interface_put m n head number name key k e has put other =
    btree_map_updates_str key m n (Some number) put other ∙ (go (bytes_eq key other) refl (at_name m other) refl
    ∙ ap (λ b. option_or (at_name m other) (cond b (Some number) None)) (ap (λ x. bytes_eq x other) k ∙ sym (heads_by_name other head ∙ ap (named_so other) e))) where
      go : (b : Bool) → bytes_eq key other ≡ b → (o : Option ℕ) → at_name m other ≡ o → cond b (Some number) o ≡ option_or o (cond b (Some number) None)
      go true f None g = refl
      go true f (Some x) g = absurd (let same = (bytes_eq-Decides key other).0 f in let h : is_some (at_name m other) ≡ false = subst (λ x. is_some (at_name m x) ≡ false) same has in cc)
      go false f o g = sym (option_or-none o)

-- the parts up to one more
pub part_next : (parts : List Part) (n : ℕ) (p : Part) (t : Table) → n < length parts → p ≡ get_or parts n p → IsTable (take n parts ++ p ∷ []) t → IsTable (take (n + 1) parts) t
part_next parts n p t below at h = subst (λ x. IsTable x t) (sym (take_more parts n p below ∙ ap (λ x. take n parts ++ x ∷ []) (sym at))) h
