use Rattle.vd_tokens.proofs.Firsts.{word_answer}
use Rattle.vd_tokens.proofs.element.word.Goals as goal

pub returns-clause-head : goal.returns-clause-head
returns-clause-head c = λ alphabet. word_answer alphabet c.args.first c.run_len.result c.args.rest.now c.requires c.run_len.ensures.passes c.run_len.ensures.stops
