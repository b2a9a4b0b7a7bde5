use Rattle.vd_declared.proofs.Mains.{FoundBelow}
use Rattle.vd_declared.proofs.main_of.has_one_main.Given as goal

abbrev pub invariant-loop-unit : goal.invariant-loop-unit
invariant-loop-unit l = FoundBelow l.units l.unit-index l.found
