use Rattle.std.proofs.Common.{◌≡◌, take}
use Rattle.vd_logic.proofs.copy.copy_with.Given as goal

abbrev pub invariant-loop-variable : goal.invariant-loop-variable
invariant-loop-variable l = l.copies ≡ take l.variable-index l.variables
