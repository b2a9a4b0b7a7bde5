use Rattle.std.proofs.Common.{sym, ◌∙◌, rules}
use Rattle.vd_known.specs.Known.{is_met, prop_needs}
use Rattle.vd_known.proofs.Needs.{all_more, all_fails, all_end}
use Rattle.vd_known.proofs.known.knows_props.Goals as goal

pub loop-prop-preserved : goal.loop-prop-preserved
loop-prop-preserved c = all_more (is_met c.args.view.now) prop_needs c.args.props.now c.loop-prop.prop-index c.prop-item.result c.loop-prop-test.true c.prop-item.is (sym c.knows_prop.ensures ∙ (search rules)) c.loop-prop.invariant

pub returns : goal.returns
returns c = all_end (is_met c.args.view.now) prop_needs c.args.props.now c.loop-prop.prop-index c.loop-prop-test.false c.loop-prop.invariant

pub returns-then-not-knows_prop : goal.returns-then-not-knows_prop
returns-then-not-knows_prop c = all_fails (is_met c.args.view.now) prop_needs c.args.props.now c.loop-prop.prop-index c.prop-item.result c.loop-prop-test.true c.prop-item.is (sym c.knows_prop.ensures ∙ (search rules))
