use Rattle.vd_machine.specs.Rivals.{NoRivalsBelow}
use Rattle.vd_machine.specs.Turns.{system_of}
use Rattle.vd_machine.proofs.rival.rivals.Given as goal

abbrev pub invariant-loop-first : goal.invariant-loop-first
invariant-loop-first l = NoRivalsBelow l.globals (system_of l.threads l.memory) l.first
