use Rattle.std.proofs.Common.{◌≡◌, ℕ, false, length}
use Rattle.vd_heads.specs.Views.{is_marked}
use Rattle.vd_heads.proofs.part_set.no_marks.Given as goal

abbrev pub invariant-loop : goal.invariant-loop
invariant-loop l = (length l.marks.items ≡ l.counter) × ((k : ℕ) → is_marked l.marks.items k ≡ false)
