use Rattle.std.proofs.Common.{Some, sym, subst}
use Rattle.vd_machine.specs.Room.{AreReady}
use Rattle.vd_machine.proofs.Rooms.{ready_add}
use Rattle.vd_machine.proofs.turn.add.Goals as goal

pub returns-clause-ready : goal.returns-clause-ready
returns-clause-ready c = λ r h. subst AreReady (sym c.push_reserved.ensures.items) (ready_add c.args.threads.now.items (Some c.args.thread) h r)
