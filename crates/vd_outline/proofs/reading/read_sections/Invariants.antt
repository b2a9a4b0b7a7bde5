use Rattle.std.proofs.Common.{length}
use Rattle.vd_outline.specs.Seen.{has}
use Rattle.vd_outline.proofs.SectionsLaws.{HasSections}
use Rattle.vd_outline.proofs.reading.read_sections.Given as goal

abbrev pub invariant-loop-rest : goal.invariant-loop-rest
invariant-loop-rest l = HasSections l.kind l.bytes l.sections (has l.seen) l.rest

abbrev pub decreases-loop-rest : goal.decreases-loop-rest
decreases-loop-rest l = length l.rest
