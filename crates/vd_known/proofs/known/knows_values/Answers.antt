use Rattle.std.proofs.Common.{sym, ◌∙◌, rules}
use Rattle.vd_known.specs.Known.{is_met, value_needs}
use Rattle.vd_known.proofs.Needs.{all_more, all_fails, all_end}
use Rattle.vd_known.proofs.known.knows_values.Goals as goal

pub loop-value-preserved : goal.loop-value-preserved
loop-value-preserved c = all_more (is_met c.args.view.now) value_needs c.args.values.now c.loop-value.value-index c.value-item.result c.loop-value-test.true c.value-item.is (sym c.knows_value.ensures ∙ (search rules)) c.loop-value.invariant

pub returns : goal.returns
returns c = all_end (is_met c.args.view.now) value_needs c.args.values.now c.loop-value.value-index c.loop-value-test.false c.loop-value.invariant

pub returns-then-not-knows_value : goal.returns-then-not-knows_value
returns-then-not-knows_value c = all_fails (is_met c.args.view.now) value_needs c.args.values.now c.loop-value.value-index c.value-item.result c.loop-value-test.true c.value-item.is (sym c.knows_value.ensures ∙ (search rules))
