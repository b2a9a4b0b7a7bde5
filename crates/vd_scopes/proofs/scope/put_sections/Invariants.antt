use Rattle.std.proofs.Common.{take}
use Rattle.vd_scopes.specs.Scope.{Adds}
use Rattle.vd_scopes.proofs.scope.put_sections.Given as goal

abbrev pub invariant-loop-section : goal.invariant-loop-section
invariant-loop-section l = Adds (take l.section-index l.sections) l.fn.scopes l.scopes
