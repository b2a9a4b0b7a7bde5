use Rattle.std.proofs.Common.{length}
use Rattle.vd_machine.specs.Passing.{SameFrame}
use Rattle.vd_machine.proofs.frame.settle.Given as goal

abbrev pub invariant-loop-frame : goal.invariant-loop-frame
invariant-loop-frame l = SameFrame l.frame l.initial.frame

abbrev pub decreases-loop-frame : goal.decreases-loop-frame
decreases-loop-frame l = length l.frame.below.items
