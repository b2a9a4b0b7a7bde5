use Rattle.std.proofs.Common.{◌≡◌, map, take}
use Rattle.vd_machine.specs.Room.{function_depth}
use Rattle.vd_machine.proofs.machine.rooms_of.Given as goal

abbrev pub invariant-loop-f : goal.invariant-loop-f
invariant-loop-f l = l.rooms.items ≡ map function_depth (take l.f-index l.program.fns)
