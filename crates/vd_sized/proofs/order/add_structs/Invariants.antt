use Rattle.std.proofs.Common.{take}
use Rattle.vd_sized.specs.Seen.{AreAdded}
use Rattle.vd_sized.proofs.order.add_structs.Given as goal

abbrev pub invariant-loop-section : goal.invariant-loop-section
invariant-loop-section l = AreAdded l.view (take l.section-index l.sections) l.initial.seen l.seen
