use Rattle.std.proofs.Common.{sym, ◌∙◌, rules}
use Rattle.vd_known.specs.Known.{is_met, assertion_needs}
use Rattle.vd_known.specs.Names.{names_of}
use Rattle.vd_known.proofs.Needs.{all_more, all_fails, all_end}
use Rattle.vd_known.proofs.known.knows_cases.Goals as goal

pub loop-case-preserved : goal.loop-case-preserved
loop-case-preserved c = all_more (is_met c.args.view.now) (assertion_needs (names_of c.args.names.now)) c.args.cases.now c.loop-case.case-index c.case-item.result c.loop-case-test.true c.case-item.is (sym c.knows_assertion.ensures ∙ (search rules)) c.loop-case.invariant

pub returns : goal.returns
returns c = all_end (is_met c.args.view.now) (assertion_needs (names_of c.args.names.now)) c.args.cases.now c.loop-case.case-index c.loop-case-test.false c.loop-case.invariant

pub returns-then-not-knows_assertion : goal.returns-then-not-knows_assertion
returns-then-not-knows_assertion c = all_fails (is_met c.args.view.now) (assertion_needs (names_of c.args.names.now)) c.args.cases.now c.loop-case.case-index c.case-item.result c.loop-case-test.true c.case-item.is (sym c.knows_assertion.ensures ∙ (search rules))
