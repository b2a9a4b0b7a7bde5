use Rattle.std.proofs.Common.{◌≡◌, take, map}
use Rattle.vd_machine.specs.Start.{global_block}
use Rattle.vd_machine.proofs.machine.first_memory.Given as goal

abbrev pub invariant-loop-g : goal.invariant-loop-g
invariant-loop-g l = l.memory ≡ map (global_block l.globals) (take l.g-index l.globals)
