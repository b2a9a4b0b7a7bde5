use Rattle.std.proofs.Common.{◌+◌, sym, subst}
use Rattle.vd_heads.specs.Least.{IsLeastOrNone}
use Rattle.vd_known.specs.Completeness.{IsMissing}
use Rattle.vd_known.proofs.LackLaws.{all_missing}
use Rattle.vd_known.proofs.LeastLaws.{Items, items_none, items_next}
use Rattle.vd_known.proofs.completeness.first_missing.Goals as goal

pub loop-mention-init : goal.loop-mention-init
loop-mention-init c = λ lines bodies. items_none (IsMissing lines c.args.view.now.parts.now c.args.view.now.own) c.args.mentions.now

pub loop-mention-preserved : goal.loop-mention-preserved
loop-mention-preserved c = λ lines bodies.
    subst (IsLeastOrNone (Items (IsMissing lines c.args.view.now.parts.now c.args.view.now.own) c.args.mentions.now (c.loop-mention.mention-index + 1))) (sym c.least_of-first.ensures)
    (items_next (IsMissing lines c.args.view.now.parts.now c.args.view.now.own) c.args.mentions.now c.loop-mention.mention-index c.mention-item.result c.loop-mention.first c.missing_place.result c.loop-mention-test.true c.mention-item.is
    (c.missing_place.ensures lines bodies) (c.loop-mention.invariant lines bodies))

pub returns : goal.returns
returns c = λ lines bodies. all_missing lines c.args.view.now.parts.now c.args.view.now.own c.args.mentions.now c.loop-mention.mention-index c.loop-mention.first c.loop-mention-test.false (c.loop-mention.invariant lines bodies)
