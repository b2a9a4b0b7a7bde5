use Rattle.std.proofs.Common.{sym}
use Rattle.vd_tokens.proofs.Firsts.{blank_answer}
use Rattle.vd_tokens.proofs.element.head.Goals as goal

pub returns-then-is_blank-clause-head : goal.returns-then-is_blank-clause-head
returns-then-is_blank-clause-head c = blank_answer c.args.alphabet c.args.first c.args.rest.now (sym c.if-is_blank.ensures)

pub returns-then-is_letter-clause-head : goal.returns-then-is_letter-clause-head
returns-then-is_letter-clause-head c = c.word.ensures.head c.args.alphabet
