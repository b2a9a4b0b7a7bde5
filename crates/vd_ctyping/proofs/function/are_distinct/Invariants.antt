use Rattle.std.proofs.Common.{take}
use Rattle.vd_ctyping.proofs.DistinctNames.{SoFar}
use Rattle.vd_ctyping.proofs.function.are_distinct.Given as goal

abbrev pub invariant-loop-number : goal.invariant-loop-number
invariant-loop-number l = SoFar l.table l.function (take l.number l.names)
