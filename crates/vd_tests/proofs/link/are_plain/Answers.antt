use Rattle.vd_tests.proofs.Plainness.{plain_all, plain_more}
use Rattle.vd_tests.proofs.link.are_plain.Goals as goal

pub loop-text-preserved : goal.loop-text-preserved
loop-text-preserved c =
    plain_more c.as_slice-text-items.result.now c.args.snapshot.now.texts c.loop-text.text-index c.loop-text-item.result c.as_slice-text-items.ensures c.loop-text-test.true c.loop-text-item.is
    (c.in_ok-is_plain.ensures.0 c.if-not-branch.false) c.loop-text.invariant

pub returns : goal.returns
returns c = λ is. plain_all c.as_slice-text-items.result.now c.args.snapshot.now.texts c.loop-text.text-index c.as_slice-text-items.ensures c.loop-text-test.false c.loop-text.invariant
