use Rattle.std.proofs.Common.{rules, ◌<◌, length, arith}
use Rattle.vd_machine.proofs.Rooms.{ready_at}
use Rattle.vd_machine.proofs.turn.make_room.Goals as goal

pub slot_spawns-requires : goal.slot_spawns-requires
slot_spawns-requires c =
    let l : c.args.at < length c.args.threads.now.items = first_of (omega arith, search rules) in
    ready_at c.args.threads.now.items c.args.at c.index.result.now l c.index.ensures c.requires.ready
