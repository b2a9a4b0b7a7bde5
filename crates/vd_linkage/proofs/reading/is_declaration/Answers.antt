use Rattle.std.proofs.Common.{Ok}
use Rattle.vd_cparse.specs.Section.{AnswersDecl}
use Rattle.vd_linkage.proofs.Readings.{there_is}
use Rattle.vd_linkage.proofs.reading.is_declaration.Goals as goal

pub returns : goal.returns
returns c = there_is (λ d. AnswersDecl c.args.text.now (Ok d)) c.in_ok-declaration.declaration c.is_some.result c.in_ok-declaration.ensures c.is_some.ensures
