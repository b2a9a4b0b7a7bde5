use Rattle.vd_sized.proofs.Seeing.{meant_by}
use Rattle.vd_sized.proofs.order.struct_meant.Goals as goal

pub returns-in-Some : goal.returns-in-Some
returns-in-Some c = meant_by c.args.view.now c.args.name.now c.in-Some.content.now c.in-Some.ensures c.struct_in.result c.struct_in.ensures
