use Rattle.vd_scopes.proofs.Filling.{has_structs}
use Rattle.vd_scopes.proofs.structs.structs_of.Goals as goal

pub returns : goal.returns
returns c =
    has_structs c.args.view.now c.requires.own c.requires.one c.in_ok-order.order c.as_slice.result.now c.in_ok-pass.field-0 c.in_ok-seen.seen c.new-structs.result c.pass.new.structs c.settle.new.structs c.as_slice.ensures
    c.new-structs.ensures c.in_ok-order.ensures c.in_ok-seen.ensures c.in_ok-pass.ensures c.in_ok-settle.ensures
