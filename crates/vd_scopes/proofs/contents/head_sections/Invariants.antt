use Rattle.std.proofs.Common.{take, All}
use Rattle.vd_outline.specs.declared.outline.TextKind.{TextKind}
use Rattle.vd_outline.specs.Outline.{IsSection}
use Rattle.vd_scopes.proofs.Placing.{AreRead}
use Rattle.vd_scopes.proofs.contents.head_sections.Given as goal

abbrev pub invariant-loop-section : goal.invariant-loop-section
invariant-loop-section l = (kind : TextKind) → All (IsSection kind) l.sections → AreRead l.begin l.at (take l.section-index l.sections) l.found
