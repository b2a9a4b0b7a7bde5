use Rattle.vd_declared.proofs.Owning.{first_here, none_at_all, none_below}
use Rattle.vd_declared.proofs.declared.first_shared.Goals as goal

pub returns-then-are_more : goal.returns-then-are_more
returns-then-are_more c =
    first_here c.args.declarations.now c.in_ok-owners.owners c.loop-d.d-index c.d-item.result c.as_bytes.result.now c.are_more.result c.in_ok-owners.ensures c.loop-d-test.true c.d-item.is c.as_bytes.ensures.value c.are_more.ensures
    c.loop-d.invariant c.if-are_more.true

pub loop-d-preserved : goal.loop-d-preserved
loop-d-preserved c =
    none_below c.args.declarations.now c.in_ok-owners.owners c.loop-d.d-index c.d-item.result c.as_bytes.result.now c.are_more.result c.in_ok-owners.ensures c.loop-d-test.true c.d-item.is c.as_bytes.ensures.value c.are_more.ensures
    c.loop-d.invariant c.if-are_more.false

pub returns : goal.returns
returns c = none_at_all c.args.declarations.now c.loop-d.d-index c.loop-d-test.false c.loop-d.invariant
