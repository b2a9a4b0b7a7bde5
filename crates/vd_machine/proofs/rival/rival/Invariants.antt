use Rattle.vd_machine.specs.Rivals.{NoRivalBelow}
use Rattle.vd_machine.specs.Turns.{system_of}
use Rattle.vd_machine.proofs.rival.rival.Given as goal

abbrev pub invariant-loop-second : goal.invariant-loop-second
invariant-loop-second l = NoRivalBelow l.globals (system_of l.threads l.memory) l.first l.second
