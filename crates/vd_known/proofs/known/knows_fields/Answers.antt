use Rattle.std.proofs.Common.{sym, ◌∙◌, rules}
use Rattle.vd_known.specs.Known.{is_met, type_needs}
use Rattle.vd_known.proofs.Needs.{all_more, all_fails, all_end}
use Rattle.vd_known.proofs.known.knows_fields.Goals as goal

pub loop-field-preserved : goal.loop-field-preserved
loop-field-preserved c = all_more (is_met c.args.view.now) (λ f. type_needs f.typ) c.args.fields.now c.loop-field.field-index c.field-item.result c.loop-field-test.true c.field-item.is (sym c.knows_type.ensures ∙ (search rules)) c.loop-field.invariant

pub returns : goal.returns
returns c = all_end (is_met c.args.view.now) (λ f. type_needs f.typ) c.args.fields.now c.loop-field.field-index c.loop-field-test.false c.loop-field.invariant

pub returns-then-not-knows_type : goal.returns-then-not-knows_type
returns-then-not-knows_type c = all_fails (is_met c.args.view.now) (λ f. type_needs f.typ) c.args.fields.now c.loop-field.field-index c.field-item.result c.loop-field-test.true c.field-item.is (sym c.knows_type.ensures ∙ (search rules))
