use Rattle.std.proofs.Common.{length}
use Rattle.vd_outline.proofs.BodyLaws.{HasRead}
use Rattle.vd_outline.proofs.body.body_end.Given as goal

abbrev pub invariant-loop-line : goal.invariant-loop-line
invariant-loop-line l = HasRead l.bytes l.rest

abbrev pub decreases-loop-line : goal.decreases-loop-line
decreases-loop-line l = length l.rest
