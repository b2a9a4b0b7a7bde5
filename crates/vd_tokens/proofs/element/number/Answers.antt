use Rattle.std.proofs.Common.{sym}
use Rattle.vd_tokens.proofs.Firsts.{number_answer, suffix_answer}
use Rattle.vd_tokens.proofs.element.number.Goals as goal

pub returns-then-begins_suffix-clause-head : goal.returns-then-begins_suffix-clause-head
returns-then-begins_suffix-clause-head c = suffix_answer c.args.alphabet c.args.first c.digits_len-n.result c.args.rest.now c.split_at.result.1.now c.digits_len-n.ensures.digits c.split_at.ensures.back (sym c.if-begins_suffix.ensures.test)

pub returns-else-begins_suffix-clause-head : goal.returns-else-begins_suffix-clause-head
returns-else-begins_suffix-clause-head c = number_answer c.args.alphabet c.args.first c.digits_len-n.result c.args.rest.now c.split_at.result.1.now c.digits_len-n.ensures.digits c.split_at.ensures.back (sym c.if-begins_suffix.ensures.test)
