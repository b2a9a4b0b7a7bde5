use Rattle.std.proofs.Common.{length}
use Rattle.vd_known.proofs.LineLaws.{SoFar}
use Rattle.vd_known.proofs.completeness.Bodies.of.Given as goal

abbrev pub invariant-lines : goal.invariant-lines
invariant-lines l = SoFar l.fn.lines l.rest l.functions l.scripts l.subs

abbrev pub decreases-lines : goal.decreases-lines
decreases-lines l = length l.rest
