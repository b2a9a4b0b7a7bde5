use Rattle.std.proofs.Common.{Ok}
use Rattle.vd_sparse.specs.Sections.{AnswersLogic}
use Rattle.vd_linkage.proofs.Readings.{there_is}
use Rattle.vd_linkage.proofs.reading.is_logic.Goals as goal

pub returns : goal.returns
returns c = there_is (λ t. AnswersLogic c.args.text.now (Ok t)) c.in_ok-logic.logic c.is_some.result c.in_ok-logic.ensures c.is_some.ensures
