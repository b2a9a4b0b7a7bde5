use Rattle.std.proofs.Common.{take}
use Rattle.vd_declared.specs.Listed.{AddsDeclarations}
use Rattle.vd_declared.proofs.declared.add_sections.Given as goal

abbrev pub invariant-loop-at : goal.invariant-loop-at
invariant-loop-at l = AddsDeclarations l.unit (take l.at l.sections) l.fn.found.items l.found.items
