use Rattle.std.proofs.Common.{◌≡◌, max, min, drop}
use Rattle.vd_machine.specs.Room.{depth_of}
use Rattle.vd_machine.proofs.machine.+room.Given as goal

abbrev pub invariant-room_of-loop-s : goal.invariant-room_of-loop-s
invariant-room_of-loop-s l = max l.room (min 4294967295 (depth_of (drop l.s-index l.list))) ≡ min 4294967295 (depth_of l.list)
