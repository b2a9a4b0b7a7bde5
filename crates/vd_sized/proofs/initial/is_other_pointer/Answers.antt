use Rattle.vd_sized.proofs.Misfitting.{other_by, other_nowhere}
use Rattle.vd_sized.proofs.initial.is_other_pointer.Goals as goal

pub returns-in-Some : goal.returns-in-Some
returns-in-Some c = other_by c.args.view.now.parts.now c.args.view.now.own c.requires.one c.args.name.now c.args.to.now c.in-Some.content.now c.is_other.result c.in-Some.ensures c.is_other.ensures

pub returns-in-None : goal.returns-in-None
returns-in-None c = other_nowhere c.args.view.now.parts.now c.args.view.now.own c.requires.one c.args.name.now c.args.to.now c.in-None.ensures
