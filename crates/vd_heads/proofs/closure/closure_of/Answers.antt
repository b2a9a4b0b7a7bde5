use Rattle.vd_heads.proofs.Closing.{found_begun, found_more, found_all}
use Rattle.vd_heads.proofs.closure.closure_of.Goals as goal

pub loop-at-init : goal.loop-at-init
loop-at-init c = found_begun c.args.parts.now c.args.from c.in_ok-set.set c.add.new.self c.in_ok-set.ensures.long c.in_ok-set.ensures.none c.in_ok-add.ensures

pub loop-at-preserved : goal.loop-at-preserved
loop-at-preserved c = found_more c.args.parts.now c.args.from c.loop-at.at c.loop-at.set c.follow.new.set c.loop-at.invariant c.in_ok-follow.ensures

pub returns : goal.returns
returns c = found_all c.args.parts.now c.args.from c.loop-at.at c.loop-at.set c.loop-at-test.false c.loop-at.invariant
