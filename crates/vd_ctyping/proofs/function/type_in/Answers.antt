use Rattle.vd_ctyping.proofs.Functions.{answered}
use Rattle.vd_ctyping.proofs.function.type_in.Goals as goal

pub returns-in-Ok : goal.returns-in-Ok
returns-in-Ok c = answered c.args.index.now.scope.now c.args.f.now c.in-Ok.answer c.in-Ok.ensures
