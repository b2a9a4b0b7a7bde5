-- The first condition that fails of a part, by the smallest places at which each one does.
use Rattle.std.proofs.Common.{◌≡◌, ◌≤◌, ◌<◌, ℕ, zero, suc, List, Option, None, Some, inl, inr, refl, sym, subst, arith}
use Rattle.std.proofs.lemmas.Bool.{cases_lt}
use Rattle.vd_heads.specs.declared.content.Part.{Part}
use Rattle.vd_heads.specs.Least.{IsLeastOrNone, IsPlaceOf}
use Rattle.vd_known.specs.Known.{IsUnknown}
use Rattle.vd_known.specs.Twice.{FailsTwice}
use Rattle.vd_sized.specs.Agreement.{IsDisagreement}
use Rattle.vd_sized.specs.Cells.{IsLarge}
use Rattle.vd_scopes.specs.Failing.{AllHold, Fails, IsFirst, IsUnread, disagreement, large, twice, unknown, unread}

module _ (parts : List Part) (own : ℕ) where
  -- the condition of a number fails at a place
  abbrev pub FailsOf : ℕ → ℕ → Type 0
  FailsOf (suc zero) place = IsUnread parts own place
  FailsOf (suc (suc zero)) place = IsPlaceOf parts own (IsUnknown parts own) place
  FailsOf (suc (suc (suc zero))) place = FailsTwice parts own place
  FailsOf (suc (suc (suc (suc zero)))) place = IsPlaceOf parts own (IsDisagreement parts own) place
  FailsOf (suc (suc (suc (suc (suc zero))))) place = IsPlaceOf parts own (IsLarge parts own) place
  FailsOf _ place = ⊥

  to_one : (condition place : ℕ) → Fails parts own condition place → FailsOf condition place
  to_one condition place (unread p f) = subst (λ k. FailsOf k place) (sym f) p
  to_one condition place (unknown p f) = subst (λ k. FailsOf k place) (sym f) p
  to_one condition place (twice p f) = subst (λ k. FailsOf k place) (sym f) p
  to_one condition place (disagreement p f) = subst (λ k. FailsOf k place) (sym f) p
  to_one condition place (large p f) = subst (λ k. FailsOf k place) (sym f) p

  from_one : (condition place : ℕ) → FailsOf condition place → Fails parts own condition place
  from_one zero place h = absurd h
  from_one (suc zero) place h = unread h refl
  from_one (suc (suc zero)) place h = unknown h refl
  from_one (suc (suc (suc zero))) place h = twice h refl
  from_one (suc (suc (suc (suc zero)))) place h = disagreement h refl
  from_one (suc (suc (suc (suc (suc zero))))) place h = large h refl
  from_one (suc (suc (suc (suc (suc (suc n)))))) place h = absurd h

  -- No condition of a smaller number fails.
  abbrev pub HoldBelow : ℕ → Type 0
  HoldBelow condition = (k at : ℕ) → k < condition → FailsOf k at → ⊥

  pub none_below : HoldBelow 1
  none_below zero at below h = h
  none_below (suc k) at below h = absurd (omega (arith, below))

  one_more_holds : (condition : ℕ) → HoldBelow condition → IsLeastOrNone (FailsOf condition) None → HoldBelow (suc condition)
  one_more_holds condition before none k at below h = elim (cases_lt k condition) [
    | inl less ↦ before k at less h
    | inr not ↦ (let e : k ≡ condition = omega (arith, below, not) in none at (subst (λ n. FailsOf n at) e h))
  ]

  is_first : (condition place : ℕ) → HoldBelow condition → IsLeastOrNone (FailsOf condition) (Some place) → IsFirst (Fails parts own) condition place
  is_first condition place before h = record {
    fails = from_one condition place h.0;
    lowest = λ other at f. elim (cases_lt other condition) [ inl less ↦ absurd (before other at less (to_one other at f)) | inr not ↦ not ];
    least = λ at f. h.1 at (to_one condition at f);
  }

  -- the smallest place that was found, or none
  pub found_first : (condition place : ℕ) → HoldBelow condition → (o : Option ℕ) → IsLeastOrNone (FailsOf condition) o → o ≡ Some place → IsFirst (Fails parts own) condition place
  found_first condition place before o least e = is_first condition place before (subst (IsLeastOrNone (FailsOf condition)) e least)

  pub next_holds : (condition : ℕ) → HoldBelow condition → (o : Option ℕ) → IsLeastOrNone (FailsOf condition) o → o ≡ None → HoldBelow (suc condition)
  next_holds condition before o least e = one_more_holds condition before (subst (IsLeastOrNone (FailsOf condition)) e least)

  pub all_hold : HoldBelow 6 → AllHold (Fails parts own)
  all_hold before (suc (suc (suc (suc (suc (suc n)))))) at f = to_one (suc (suc (suc (suc (suc (suc n)))))) at f
  all_hold before zero at f = to_one zero at f
  all_hold before (suc zero) at f = before 1 at (omega arith) (to_one 1 at f)
  all_hold before (suc (suc zero)) at f = before 2 at (omega arith) (to_one 2 at f)
  all_hold before (suc (suc (suc zero))) at f = before 3 at (omega arith) (to_one 3 at f)
  all_hold before (suc (suc (suc (suc zero)))) at f = before 4 at (omega arith) (to_one 4 at f)
  all_hold before (suc (suc (suc (suc (suc zero))))) at f = before 5 at (omega arith) (to_one 5 at f)

  pub at_most_five : (condition place : ℕ) → Fails parts own condition place → condition ≤ 5
  at_most_five condition place (unread p f) = omega (arith, f)
  at_most_five condition place (unknown p f) = omega (arith, f)
  at_most_five condition place (twice p f) = omega (arith, f)
  at_most_five condition place (disagreement p f) = omega (arith, f)
  at_most_five condition place (large p f) = omega (arith, f)

  pub not_twice : HoldBelow 4 → (place : ℕ) → FailsTwice parts own place → ⊥
  not_twice before place f = before 3 place (omega arith) f
