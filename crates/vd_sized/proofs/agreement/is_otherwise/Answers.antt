use Rattle.vd_sized.proofs.Defining.{defines_nothing}
use Rattle.vd_sized.proofs.agreement.is_otherwise.Goals as goal

pub returns-in-None : goal.returns-in-None
returns-in-None c = defines_nothing c.args.view.now.parts.now c.args.view.now.own c.args.content.now c.in-None.ensures
