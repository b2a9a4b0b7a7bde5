use Rattle.std.proofs.Common.{length}
use Rattle.vd_section.proofs.Lines.{Seeks}
use Rattle.vd_section.proofs.line.end_of.Given as goal

abbrev pub invariant-bytes : goal.invariant-bytes
invariant-bytes l = Seeks l.body l.n l.starts l.left

abbrev pub decreases-bytes : goal.decreases-bytes
decreases-bytes l = length l.left
