use Rattle.vd_sparse.specs.Sections.{AnswersLogic}
use Rattle.vd_linkage.proofs.Readings.{not_ok, only_ok}
use Rattle.vd_linkage.proofs.reading.logic_in.Goals as goal

pub returns-in-Ok : goal.returns-in-Ok
returns-in-Ok c = only_ok (AnswersLogic c.args.text.now) c.in-Ok.logic c.in-Ok.ensures.answers c.in-Ok.ensures.exact

pub returns-in_ok-refused-in-Err : goal.returns-in_ok-refused-in-Err
returns-in_ok-refused-in-Err c = not_ok (AnswersLogic c.args.text.now) c.in-Err.fault c.in_ok-refused-in-Err.ensures c.in-Err.ensures.exact
