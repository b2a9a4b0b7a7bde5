use Rattle.std.proofs.Common.{take}
use Rattle.vd_declared.specs.Listed.{UnitsDeclare}
use Rattle.vd_declared.proofs.declared.declarations_of.Given as goal

abbrev pub invariant-loop-unit : goal.invariant-loop-unit
invariant-loop-unit l = UnitsDeclare 0 (take l.unit l.units) l.found.items
