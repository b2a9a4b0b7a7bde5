use Rattle.std.proofs.lemmas.Result.{IfOk-weaker}
use Rattle.vd_declared.proofs.Twice.{twice_told}
use Rattle.vd_declared.proofs.declared.declared_twice.Goals as goal

pub returns : goal.returns
returns c =
    let units = c.args.units.now in
    let items = c.as_slice.result.now in
    let ds = c.in_ok-declarations.declarations.items in
    let seen = c.as_slice-2.result.now in
    let shared = c.in_ok-name.name in
    IfOk-weaker c.copy_of.result _ _ (λ told e. twice_told units items ds seen shared told c.as_slice.ensures c.in_ok-declarations.ensures c.as_slice-2.ensures.value c.in_ok-name.ensures e) c.copy_of.ensures
