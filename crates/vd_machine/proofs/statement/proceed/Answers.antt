use Rattle.std.proofs.Common.{rules, ◌≤◌, ◌<◌, length, arith}
use Rattle.vd_machine.specs.Room.{depth, depth_of}
use Rattle.vd_machine.proofs.Rooms.{depth_at}
use Rattle.vd_machine.proofs.statement.proceed.Goals as goal

pub statement-requires-clause-fits : goal.statement-requires-clause-fits
statement-requires-clause-fits c =
    let level = c.args.thread.now.top.level in
    let l : level.at < length level.list.now = search rules in
    let d : depth c.index-list-at.result ≤ depth_of level.list.now = depth_at level.list.now level.at c.index-list-at.result l c.index-list-at.is in
    let r = c.requires.ready.1.0.1 in
    omega arith
