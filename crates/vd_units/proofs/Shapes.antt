-- The units that a link lists.
use Rattle.std.proofs.Common.{◌≡◌, ◌⊎◌, ◌<◌, ◌≤◌, ◌+◌, ℕ, zero, suc, Bool, true, false, ◌||◌, not, ◌==◌, cond, List, [], ◌∷◌, ◌++◌, length, map, take, get_or, slice_get, nat_le, Option, None, Some, Result, Ok, Err, IfOk, MatchOption, inl, inr, refl, ap, sym, ◌∙◌, subst, arith, append_assoc}
use Rattle.std.proofs.lemmas.Bool.{cases_lt}
use Rattle.std.proofs.lemmas.Bool.Decides.{nat_tests}
use Rattle.std.proofs.lemmas.List.{take_more, take_all}
use Rattle.std.proofs.lemmas.List.Sums.{sum_by-cons}
use Rattle.std.proofs.lemmas.Option.{get_or_from_slice_get, slice_get_read, slice_get_within}
use Rattle.std.proofs.lemmas.Slice.Eq.{bytes_eq-Decides}
use Rattle.std.specs.List.{count_by, list_any}
use Rattle.std.specs.Option.{is_some}
use Rattle.std.specs.Str.{bytes_eq}
use Rattle.vd_outline.specs.declared.outline.Outline.{Outline}
use Rattle.vd_outline.specs.declared.outline.TextKind.TheVariants.{Unit as UnitText}
use Rattle.vd_outline.specs.Outline.{Bytes}
use Rattle.vd_singles.specs.declared.table.Table.{Table}
use Rattle.vd_linkage.specs.Conditions.{IsFirstOther, is_repeated}
use Rattle.vd_linkage.specs.Form.{Entry}
use Rattle.vd_linkage.specs.Reading.{has_name}
use Rattle.vd_units.specs.declared.texts.Index.{Index}
use Rattle.vd_units.specs.Index.{IsIndexOf}
use Rattle.vd_units.specs.Listed.{AreUnits, no_names, one_more}
use Rattle.vd_linkage.specs.Shape.{Units, no_names as none_listed, taken}
use Rattle.vd_singles.specs.Table.{CountsNames, IsTable, single}
use Rattle.vd_linkage.specs.Texts.{IsMissing, IsOutlined}
use Rattle.vd_linkage.proofs.Lists.{at_back, not_two, some_same}
use Rattle.vd_singles.proofs.Singles.{there_is}

-- ---- how often names stand

abbrev pub often : List Bytes → Bytes → ℕ
often names name = count_by (λ n. bytes_eq n name) names

stands_some : (names : List Bytes) (name : Bytes) → has_name names name ≡ true → 1 ≤ often names name
stands_some [] name h = absurd (cc)
stands_some (n ∷ names) name h = by (bytes_eq n name) refl (sum_by-cons (λ m. cond (bytes_eq m name) 1 0) n names) (stands_some names name) h where
  by : (b : Bool) → bytes_eq n name ≡ b → often (n ∷ names) name ≡ cond (bytes_eq n name) 1 0 + often names name → (has_name names name ≡ true → 1 ≤ often names name)
      → b || list_any (λ m. bytes_eq m name) names ≡ true → 1 ≤ often (n ∷ names) name
  by true e s more g = (let t = ap (λ b. cond {A = ℕ} b 1 0) e in omega (arith, s, t))
  by false e s more g = (let t = more g in omega (arith, s, t))

often_append : (xs ys : List Bytes) (name : Bytes) → often (xs ++ ys) name ≡ often xs name + often ys name
often_append [] ys name = omega arith
often_append (x ∷ xs) ys name =
    let f : Bytes → ℕ = λ m. cond (bytes_eq m name) 1 0 in
    let a = sum_by-cons f x (xs ++ ys) in
    let b = sum_by-cons f x xs in
    let c = often_append xs ys name in
    omega (arith, a, b, c)

member_at : (names : List Bytes) (k : ℕ) (n : Bytes) → slice_get names k ≡ Some n → has_name names n ≡ true
member_at [] k n e = absurd (cc)
member_at (m ∷ names) zero n e = ap (λ b. b || list_any (λ x. bytes_eq x n) names) ((bytes_eq-Decides m n).1 (some_same m n e))
member_at (m ∷ names) (suc k) n e = go (bytes_eq m n) (member_at names k n e) where
  go : (b : Bool) → list_any (λ x. bytes_eq x n) names ≡ true → b || list_any (λ x. bytes_eq x n) names ≡ true
  go true h = refl
  go false h = h

not_once : (c : ℕ) (b : Bool) → 1 ≤ c → (c == 1) ≡ b → nat_le 2 c ≡ not b
not_once c true le e = grind (arith, nat_tests)
not_once c false le e = grind (arith, nat_tests)

-- what the table tells of a name that stands: whether it stands again
pub told_once : (names : List Bytes) (t : Table) (name : Bytes) (o : Option ℕ) → CountsNames names t → has_name names name ≡ true → o ≡ single name (map (λ n. (n, 0)) names) → is_repeated names name ≡ not (is_some o)
told_once names t name o counts stands e =
    not_once (often names name) (is_some o) (stands_some names name stands) (sym (ap is_some e ∙ there_is (λ n. n) (λ n. 0) name names))

-- what is found of a name that stands: its unit, where it stands once
abbrev pub IsAnswer : Index → Table → Bytes → Option Outline → Type 0
IsAnswer index counts name found = (entries : List Entry) (names : List Bytes) → IsIndexOf entries index → CountsNames names counts → has_name names name ≡ true
    → MatchOption found (IsMissing entries UnitText name ⊎ (is_repeated names name ≡ true)) (λ o. IsOutlined entries UnitText name o × (is_repeated names name ≡ false))

module _ (index : Index) (counts : Table) (name key : Bytes) (same : key ≡ name) where
  pub again_answered : ((pairs : List (Bytes × ℕ)) → IsTable counts pairs → None ≡ single key pairs) → IsAnswer index counts name None
  again_answered none entries names is of stands = inr (told_once names counts name None of stands (none (map (λ n. (n, 0)) names) of ∙ ap (λ k. single k (map (λ n. (n, 0)) names)) same))

  once_answered : (number : ℕ) → ((pairs : List (Bytes × ℕ)) → IsTable counts pairs → Some number ≡ single key pairs) → (found : Option Outline)
      → ((entries : List Entry) → IsIndexOf entries index → MatchOption found (IsMissing entries UnitText key) (IsOutlined entries UnitText key)) → IsAnswer index counts name found
  once_answered number once None outlined entries names is of stands = inl (subst (IsMissing entries UnitText) same (outlined entries is))
  once_answered number once (Some o) outlined entries names is of stands = (
    subst (λ k. IsOutlined entries UnitText k o) same (outlined entries is),
    told_once names counts name (Some number) of stands (once (map (λ n. (n, 0)) names) of ∙ ap (λ k. single k (map (λ n. (n, 0)) names)) same),
  )

  pub each_answered : {E : Type 0} (number : ℕ) → ((pairs : List (Bytes × ℕ)) → IsTable counts pairs → Some number ≡ single key pairs) → (r : Result (Option Outline) E)
      → IfOk r (λ found. (entries : List Entry) → IsIndexOf entries index → MatchOption found (IsMissing entries UnitText key) (IsOutlined entries UnitText key)) → IfOk r (IsAnswer index counts name)
  each_answered number once (Ok found) outlined = once_answered number once found outlined
  each_answered number once (Err e) outlined = outlined

-- ---- units of names

are_more : (texts : List Entry) (names : List Bytes) (os : List Outline) (n : Bytes) (o : Outline) → AreUnits texts names os → IsOutlined texts UnitText n o → AreUnits texts (names ++ n ∷ []) (os ++ o ∷ [])
are_more texts [] [] n o no_names i = one_more i no_names
are_more texts [] (p ∷ os) n o r i = elim r [ ]
are_more texts (m ∷ names) [] n o r i = elim r [ ]
are_more texts (m ∷ names) (p ∷ os) n o (one_more x r) i = one_more x (are_more texts names os n o r i)

units_next : (texts : List Entry) (names : List Bytes) (i : ℕ) (n : Bytes) (o : Outline) (os : List Outline) → i < length names → n ≡ get_or names i n → AreUnits texts (take i names) os → IsOutlined texts UnitText n o
    → AreUnits texts (take (i + 1) names) (os ++ o ∷ [])
units_next texts names i n o os within at h is =
    subst (λ xs. AreUnits texts xs (os ++ o ∷ [])) (sym (take_more names i n within ∙ ap (λ y. take i names ++ y ∷ []) (sym at))) (are_more texts (take i names) os n o h is)

unit_at : (texts : List Entry) (names : List Bytes) (os : List Outline) → AreUnits texts names os → (k : ℕ) (n : Bytes) → slice_get names k ≡ Some n → (o : Outline) × IsOutlined texts UnitText n o
unit_at texts [] [] no_names k n e = absurd (cc)
unit_at texts [] (o ∷ os) r k n e = elim r [ ]
unit_at texts (m ∷ names) [] r k n e = elim r [ ]
unit_at texts (m ∷ names) (o ∷ os) (one_more i r) zero n e = (o, subst (λ x. IsOutlined texts UnitText x o) (some_same m n e) i)
unit_at texts (m ∷ names) (o ∷ os) (one_more i r) (suc k) n e = unit_at texts names os r k n e

front_at : {X : Type 0} (xs : List X) (i k : ℕ) (x : X) → k < i → slice_get xs k ≡ Some x → slice_get (take i xs) k ≡ Some x
front_at [] i k x lt e = absurd (cc)
front_at (y ∷ xs) zero k x lt e = absurd (omega (arith, lt))
front_at (y ∷ xs) (suc i) zero x lt e = e
front_at (y ∷ xs) (suc i) (suc k) x lt e = front_at xs i k x (omega (arith, lt)) e

-- ---- each stands once

repeated_of : (names : List Bytes) (name : Bytes) → 2 ≤ often names name → is_repeated names name ≡ true
repeated_of names name le = grind (arith, nat_tests)

units_once : (texts : List Entry) (front names met : List Bytes) (os : List Outline) → AreUnits texts names os → ((n : Bytes) → has_name met n ≡ true → 1 ≤ often front n)
    → ((k : ℕ) (n : Bytes) → slice_get (front ++ names) k ≡ Some n → is_repeated (front ++ names) n ≡ false) → Units texts met names os
units_once texts front [] met [] no_names seen once = none_listed
units_once texts front [] met (o ∷ os) r seen once = elim r [ ]
units_once texts front (n ∷ names) met [] r seen once = elim r [ ]
units_once texts front (n ∷ names) met (o ∷ os) (one_more i r) seen once = taken (new (has_name met n) refl) i (units_once texts (front ++ n ∷ []) names (n ∷ met) os r seen_more once_more) where
  own : 1 ≤ often (n ∷ names) n
  own = stands_some (n ∷ names) n (member_at (n ∷ names) 0 n refl)

  new : (b : Bool) → has_name met n ≡ b → has_name met n ≡ false
  new false e = e
  new true e =
      let a = seen n e in
      let s = often_append front (n ∷ names) n in
      let again = repeated_of (front ++ n ∷ names) n (omega (arith, a, own, s)) in
      absurd (not_two (is_repeated (front ++ n ∷ names) n) again (once (length front + 0) n (at_back front (n ∷ names) 0)))

  seen_more : (m : Bytes) → has_name (n ∷ met) m ≡ true → 1 ≤ often (front ++ n ∷ []) m
  seen_more m h = go (bytes_eq n m) refl h where
    s : often (front ++ n ∷ []) m ≡ often front m + often (n ∷ []) m
    s = often_append front (n ∷ []) m

    go : (b : Bool) → bytes_eq n m ≡ b → b || list_any (λ x. bytes_eq x m) met ≡ true → 1 ≤ often (front ++ n ∷ []) m
    go true e g = (let a = stands_some (n ∷ []) m (ap (λ b. b || false) e) in omega (arith, a, s))
    go false e g = (let a = seen m g in omega (arith, a, s))

  once_more : (k : ℕ) (m : Bytes) → slice_get ((front ++ n ∷ []) ++ names) k ≡ Some m → is_repeated ((front ++ n ∷ []) ++ names) m ≡ false
  once_more k m e =
      let same : (front ++ n ∷ []) ++ names ≡ front ++ n ∷ names = append_assoc front (n ∷ []) names in
      subst (λ xs. is_repeated xs m ≡ false) (sym same) (once k m (subst (λ xs. slice_get xs k ≡ Some m) same e))

-- ---- the names so far

-- the first so many names are those of units with these outlines, and each stands once
abbrev pub SoFar : List Entry → List Bytes → ℕ → List Outline → Type 0
SoFar texts names i os = AreUnits texts (take i names) os × ((k : ℕ) (n : Bytes) → k < i → slice_get names k ≡ Some n → is_repeated names n ≡ false)

pub none_met : (texts : List Entry) (names : List Bytes) (os : List Outline) → os ≡ [] → SoFar texts names 0 os
none_met texts names os e = (subst (AreUnits texts []) (sym e) no_names, λ k n lt at. absurd (omega (arith, lt)))

module _ (texts : List Entry) (names xs : List Bytes) (same : xs ≡ names) (i : ℕ) (n : Bytes) (os : List Outline) (within : i < length xs) (at : n ≡ get_or xs i n) (so_far : SoFar texts names i os) where
  here : slice_get names i ≡ Some n
  here = subst (λ ys. slice_get ys i ≡ Some n) same (slice_get_read xs (length xs) i n refl within at)

  pub stands_here : has_name names n ≡ true
  stands_here = member_at names i n here

  pub one_met : (o : Outline) (ps : List Outline) → IsOutlined texts UnitText n o × (is_repeated names n ≡ false) → ps ≡ os ++ o ∷ [] → SoFar texts names (i + 1) ps
  one_met o ps is e = (
    subst (AreUnits texts (take (i + 1) names)) (sym e) (units_next texts names i n o os (slice_get_within names i n here) (sym (get_or_from_slice_get names i n n here)) so_far.0 is.0),
    λ k m lt there. elim (cases_lt k i) [
      | inl less ↦ so_far.1 k m less there
      | inr past ↦ (let at_i : k ≡ i = omega (arith, lt, past) in
          subst (λ x. is_repeated names x ≡ false) (some_same n m (sym here ∙ (ap (slice_get names) (sym at_i) ∙ there))) is.1)
    ],
  )

  -- the first name that is no unit or stands again
  pub first_other : (copied : Bytes) → copied ≡ n → IsMissing texts UnitText n ⊎ (is_repeated names n ≡ true) → IsFirstOther texts names copied
  first_other copied e bad = subst (IsFirstOther texts names) (sym e) (record {
    place = i;
    at = here;
    bad = bad;
    before = λ k m lt there. (unit_at texts (take i names) os so_far.0 k m (front_at names i k m lt there), so_far.1 k m lt there);
  })

none_other : (texts : List Entry) (names : List Bytes) (os : List Outline) → AreUnits texts names os → ((k : ℕ) (m : Bytes) → slice_get names k ≡ Some m → is_repeated names m ≡ false) → (name : Bytes) → IsFirstOther texts names name → ⊥
none_other texts names os are once name f = elim f.bad [
  | inl missing ↦ (let u = unit_at texts names os are f.place name f.at in missing u.0 u.1)
  | inr again ↦ not_two (is_repeated names name) again (once f.place name f.at)
]

pub all_met : (texts : List Entry) (names xs : List Bytes) (i : ℕ) (os : List Outline) → xs ≡ names → length xs ≤ i → SoFar texts names i os → Units texts [] names os × ((name : Bytes) → IsFirstOther texts names name → ⊥)
all_met texts names xs i os same past so_far =
    let past_all : length names ≤ i = omega (arith, past, ap length same) in
    let are : AreUnits texts names os = subst (λ ys. AreUnits texts ys os) (take_all i names past_all) so_far.0 in
    let once = λ (k : ℕ) (n : Bytes) (e : slice_get names k ≡ Some n). so_far.1 k n (omega (arith, slice_get_within names k n e, past_all)) e in
    (units_once texts [] names [] os are (λ n h. absurd (cc)) once, none_other texts names os are once)
