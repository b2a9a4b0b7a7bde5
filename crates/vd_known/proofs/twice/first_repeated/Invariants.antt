use Rattle.std.proofs.Common.{◌≡◌, true}
use Rattle.vd_heads.specs.Least.{IsLeastOrNone}
use Rattle.vd_known.specs.Twice as twice
use Rattle.vd_known.proofs.LeastLaws.{Among}
use Rattle.vd_known.proofs.twice.first_repeated.Given as goal

abbrev pub invariant-loop-section : goal.invariant-loop-section
invariant-loop-section l = IsLeastOrNone (Among (λ c. twice.repeats c ≡ true) l.section-items l.section-index) l.first
