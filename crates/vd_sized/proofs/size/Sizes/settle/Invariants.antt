use Rattle.std.proofs.Common.{length}
use Rattle.vd_sized.proofs.Settling.{Settling}
use Rattle.vd_sized.proofs.size.Sizes.settle.Given as goal

abbrev pub invariant-loop-waiting : goal.invariant-loop-waiting
invariant-loop-waiting l = Settling l.view l.initial.self l.self l.fn.seen l.waiting

abbrev pub decreases-loop-waiting : goal.decreases-loop-waiting
decreases-loop-waiting l = length l.waiting
