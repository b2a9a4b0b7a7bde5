use Rattle.std.proofs.Common.{take}
use Rattle.vd_code.specs.Code.{IsAdded}
use Rattle.vd_linkage.specs.Program.{HasCode}
use Rattle.vd_code.proofs.code.add_sections.Given as goal

abbrev pub invariant-loop-section : goal.invariant-loop-section
invariant-loop-section l = IsAdded (HasCode l.index.scope.now (take l.section-index l.sections)) l.fn.code l.code
