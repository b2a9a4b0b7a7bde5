use Rattle.vd_machine.proofs.Rooms.{roomy_out}
use Rattle.vd_machine.proofs.statement.give.Goals as goal

pub returns-in-Some-clause-roomy : goal.returns-in-Some-clause-roomy
returns-in-Some-clause-roomy c = λ h. roomy_out c.args.thread.now.waiting.items c.pop.new.self.items c.in-Some.caller c.in-Some.ensures.items h.1
