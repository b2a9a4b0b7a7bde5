use Rattle.std.proofs.Common.{sym, ◌∙◌, rules}
use Rattle.vd_known.specs.Known.{is_met, local_needs}
use Rattle.vd_known.specs.Names.{names_of}
use Rattle.vd_known.proofs.Needs.{all_more, all_fails, all_end}
use Rattle.vd_known.proofs.known.knows_locals.Goals as goal

pub loop-local-preserved : goal.loop-local-preserved
loop-local-preserved c = all_more (is_met c.args.view.now) (local_needs (names_of c.args.names.now)) c.args.locals.now c.loop-local.local-index c.local-item.result c.loop-local-test.true c.local-item.is (sym c.knows_local.ensures ∙ (search rules)) c.loop-local.invariant

pub returns : goal.returns
returns c = all_end (is_met c.args.view.now) (local_needs (names_of c.args.names.now)) c.args.locals.now c.loop-local.local-index c.loop-local-test.false c.loop-local.invariant

pub returns-then-not-knows_local : goal.returns-then-not-knows_local
returns-then-not-knows_local c = all_fails (is_met c.args.view.now) (local_needs (names_of c.args.names.now)) c.args.locals.now c.loop-local.local-index c.local-item.result c.loop-local-test.true c.local-item.is (sym c.knows_local.ensures ∙ (search rules))
