-- The first condition that fails of the own part with its header lines, and of the first part of which one does.
use Rattle.std.proofs.Common.{◌≡◌, ◌≤◌, ◌<◌, ℕ, ◌+◌, List, [], ◌∷◌, length, Option, MatchOption, None, Some, inl, inr, refl, subst, arith}
use Rattle.std.proofs.lemmas.Bool.{cases_lt}
use Rattle.vd_heads.specs.declared.content.Part.{Part}
use Rattle.vd_heads.specs.declared.content.HeadSection.{HeadSection}
use Rattle.vd_heads.specs.Declaration.{Bytes, IsSection}
use Rattle.vd_heads.specs.Closure.{IsUnambiguous}
use Rattle.vd_heads.specs.Least.{IsLeastOrNone}
use Rattle.vd_known.specs.Completeness.{FailsComplete}
use Rattle.vd_known.specs.Twice.{FailsTwice}
use Rattle.vd_scopes.specs.Failing.{Accepts, AllHold, Fails, FailsOwn, IsFirst, IsFirstOrNone, IsFirstPart, Refuses, incomplete, of_part, twice}
use Rattle.vd_scopes.proofs.Judging.{at_most_five}
use Rattle.vd_scopes.proofs.Meaning.{is_unambiguous}

module _ (parts : List Part) (lines : Bytes) where
  lowest_own : (condition place : ℕ) → IsFirst (Fails parts 0) condition place → (other at : ℕ) → FailsOwn parts lines other at → condition ≤ other
  lowest_own condition place h other at (of_part f) = h.lowest other at f
  lowest_own condition place h other at (incomplete f e) = let b = at_most_five parts 0 condition place h.fails in omega (arith, b, e)

  least_own : (condition place : ℕ) → IsFirst (Fails parts 0) condition place → (at : ℕ) → FailsOwn parts lines condition at → place ≤ at
  least_own condition place h at (of_part f) = h.least at f
  least_own condition place h at (incomplete f e) = let b = at_most_five parts 0 condition place h.fails in absurd (omega (arith, b, e))

  -- a condition of the part itself goes before what the unit lacks
  part_first : (condition place : ℕ) → IsFirst (Fails parts 0) condition place → IsFirst (FailsOwn parts lines) condition place
  part_first condition place h = record { fails = of_part h.fails; lowest = lowest_own condition place h; least = least_own condition place h }

  module _ (hold : AllHold (Fails parts 0)) where
    six_or_more : (other at : ℕ) → FailsOwn parts lines other at → 6 ≤ other
    six_or_more other at (of_part f) = absurd (hold other at f)
    six_or_more other at (incomplete f e) = omega (arith, e)

    lacks : (condition at : ℕ) → FailsOwn parts lines condition at → FailsComplete lines parts 0 at
    lacks condition at (of_part f) = absurd (hold condition at f)
    lacks condition at (incomplete f e) = f

    lack_first : (place : ℕ) → IsLeastOrNone (FailsComplete lines parts 0) (Some place) → IsFirst (FailsOwn parts lines) 6 place
    lack_first place h = record { fails = incomplete h.0 refl; lowest = six_or_more; least = λ at f. h.1 at (lacks 6 at f) }

    nothing_lacks : IsLeastOrNone (FailsComplete lines parts 0) None → AllHold (FailsOwn parts lines)
    nothing_lacks none condition at f = none at (lacks condition at f)

  -- what was found of the part itself, which has the number 0, and of the unit
  module _ (own : ℕ) (is : own ≡ 0) (found : Option (ℕ × ℕ)) where
    pub found_own : (at : ℕ × ℕ) → IsFirstOrNone (Fails parts own) found → found ≡ Some at → IsFirst (FailsOwn parts lines) at.1 at.0
    found_own at first e = part_first at.1 at.0 (subst (λ k. IsFirst (Fails parts k) at.1 at.0) is (subst (IsFirstOrNone (Fails parts own)) e first))

    holds : IsFirstOrNone (Fails parts own) found → found ≡ None → AllHold (Fails parts 0)
    holds first e = subst (λ k. AllHold (Fails parts k)) is (subst (IsFirstOrNone (Fails parts own)) e first)

    lack : (o r : Option ℕ) → IsLeastOrNone (FailsComplete lines parts own) o → o ≡ r → IsLeastOrNone (FailsComplete lines parts 0) r
    lack o r least e = subst (λ k. IsLeastOrNone (FailsComplete lines parts k) r) is (subst (IsLeastOrNone (FailsComplete lines parts own)) e least)

    pub found_lack : (o : Option ℕ) (place : ℕ) → IsFirstOrNone (Fails parts own) found → found ≡ None → IsLeastOrNone (FailsComplete lines parts own) o → o ≡ Some place → IsFirst (FailsOwn parts lines) 6 place
    found_lack o place first e least f = lack_first (holds first e) place (lack o (Some place) least f)

    pub nothing_fails : (o : Option ℕ) → IsFirstOrNone (Fails parts own) found → found ≡ None → IsLeastOrNone (FailsComplete lines parts own) o → o ≡ None → AllHold (FailsOwn parts lines)
    nothing_fails o first e least f = nothing_lacks (holds first e) (lack o None least f)

-- ---- part after part

-- nothing fails of the first n parts
abbrev pub HoldBefore : List Part → ℕ → Type 0
HoldBefore parts n = (k : ℕ) → k < n → AllHold (Fails parts k)

pub none_before : (parts : List Part) → HoldBefore parts 0
none_before parts k below = absurd (omega (arith, below))

one_more_before : (parts : List Part) (n : ℕ) → AllHold (Fails parts n) → HoldBefore parts n → HoldBefore parts (n + 1)
one_more_before parts n holds before k below = elim (cases_lt k n) [
  | inl less ↦ before k less
  | inr not ↦ (let e : n ≡ k = omega (arith, below, not) in subst (λ m. AllHold (Fails parts m)) e holds)
]

first_part : (parts : List Part) (n condition place : ℕ) → n < length parts → HoldBefore parts n → IsFirst (Fails parts n) condition place → IsFirstPart parts condition place
first_part parts n condition place stands before first = record { number = n; stands = stands; first = first; before = before }

pub all_accept : (parts : List Part) (n : ℕ) → length parts ≤ n → HoldBefore parts n → Accepts parts None
all_accept parts n past before k below = before k (omega (arith, past, below))

-- what was found of the part of number n, as its view has the parts and the number
module _ (parts seen : List Part) (n own : ℕ) (same : seen ≡ parts) (is : own ≡ n) (found : Option (ℕ × ℕ)) (r : Option (ℕ × ℕ)) (first : IsFirstOrNone (Fails seen own) found) (e : found ≡ r) where
  found_there : IsFirstOrNone (Fails parts n) r
  found_there = subst (λ k. IsFirstOrNone (Fails parts k) r) is (subst (λ ps. IsFirstOrNone (Fails ps own) r) same (subst (IsFirstOrNone (Fails seen own)) e first))

pub found_part : (parts seen : List Part) (n own : ℕ) (found : Option (ℕ × ℕ)) (at : ℕ × ℕ) → seen ≡ parts → own ≡ n → IsFirstOrNone (Fails seen own) found → found ≡ Some at → n < length parts → HoldBefore parts n → IsFirstPart parts at.1 at.0
found_part parts seen n own found at same is first e stands before = first_part parts n at.1 at.0 stands before (found_there parts seen n own same is found (Some at) first e)

pub part_holds : (parts seen : List Part) (n own : ℕ) (found : Option (ℕ × ℕ)) → seen ≡ parts → own ≡ n → IsFirstOrNone (Fails seen own) found → found ≡ None → HoldBefore parts n → HoldBefore parts (n + 1)
part_holds parts seen n own found same is first e before = one_more_before parts n (found_there parts seen n own same is found None first e) before

-- ---- what is accepted has no name twice

own_once : (parts : List Part) → AllHold (Fails parts 0) → (place : ℕ) → FailsTwice parts 0 place → ⊥
own_once parts hold place f = hold 3 place (twice f refl)

nothing_stands : (k i : ℕ) (h : HeadSection) → IsSection [] k i h → ⊥
nothing_stands k i h e = cc

empty_once : (place : ℕ) → FailsTwice [] 0 place → ⊥
empty_once place (inl t) = let d = t.2.0.first.declared in nothing_stands t.2.0.first_part t.2.0.first_section d.section d.stands
empty_once place (inr p) = nothing_stands 0 p.number p.section p.stands

-- no name is declared twice in what the own part sees
accepted_once : (parts : List Part) (lines : Option Bytes) → Accepts parts lines → (place : ℕ) → FailsTwice parts 0 place → ⊥
accepted_once [] lines a = empty_once
accepted_once (p ∷ ps) None a = own_once (p ∷ ps) (a 0 (omega arith))
accepted_once (p ∷ ps) (Some lines) a = own_once (p ∷ ps) (λ condition place f. a condition place (of_part f))

-- where nothing was found, a name means one thing at most
pub accepted_unambiguous : (parts : List Part) (lines : Option Bytes) (found : Option (ℕ × ℕ)) → MatchOption found (Accepts parts lines) (λ at. Refuses parts lines at.1 at.0) → found ≡ None → IsUnambiguous parts 0
accepted_unambiguous parts lines found none e =
    is_unambiguous parts 0 (accepted_once parts lines (subst (λ r. MatchOption r (Accepts parts lines) (λ at. Refuses parts lines at.1 at.0)) e none))
