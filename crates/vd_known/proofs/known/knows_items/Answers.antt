use Rattle.std.proofs.Common.{sym, ◌∙◌, rules}
use Rattle.vd_known.specs.Known.{is_met, item_needs}
use Rattle.vd_known.proofs.Needs.{all_more, all_fails, all_end}
use Rattle.vd_known.proofs.known.knows_items.Goals as goal

pub loop-item-preserved : goal.loop-item-preserved
loop-item-preserved c = all_more (is_met c.args.view.now) item_needs c.args.items.now c.loop-item.item-index c.item-item.result c.loop-item-test.true c.item-item.is (sym c.knows_item.ensures ∙ (search rules)) c.loop-item.invariant

pub returns : goal.returns
returns c = all_end (is_met c.args.view.now) item_needs c.args.items.now c.loop-item.item-index c.loop-item-test.false c.loop-item.invariant

pub returns-then-not-knows_item : goal.returns-then-not-knows_item
returns-then-not-knows_item c = all_fails (is_met c.args.view.now) item_needs c.args.items.now c.loop-item.item-index c.item-item.result c.loop-item-test.true c.item-item.is (sym c.knows_item.ensures ∙ (search rules))
