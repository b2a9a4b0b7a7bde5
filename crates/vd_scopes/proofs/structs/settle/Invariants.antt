use Rattle.std.proofs.Common.{length}
use Rattle.vd_scopes.proofs.Filling.{Settling}
use Rattle.vd_scopes.proofs.structs.settle.Given as goal

abbrev pub invariant-loop-waiting : goal.invariant-loop-waiting
invariant-loop-waiting l = Settling l.fn.seen l.fn.structs l.structs l.waiting

abbrev pub decreases-loop-waiting : goal.decreases-loop-waiting
decreases-loop-waiting l = length l.waiting
