use Rattle.std.proofs.Common.{sym}
use Rattle.vd_tokens.proofs.Firsts.{pair_answer, single_answer, no_sign_answer}
use Rattle.vd_tokens.proofs.element.sign.Goals as goal

pub returns-then-begins_pair-clause-head : goal.returns-then-begins_pair-clause-head
returns-then-begins_pair-clause-head c = pair_answer c.args.alphabet c.args.first c.args.rest.now c.requires (sym c.if-begins_pair.ensures.test)

pub returns-then-is_sign-clause-head : goal.returns-then-is_sign-clause-head
returns-then-is_sign-clause-head c = single_answer c.args.alphabet c.args.first c.args.rest.now c.requires (sym c.if-begins_pair.ensures.test) (sym c.if-is_sign.ensures)

pub returns-else-is_sign-clause-head : goal.returns-else-is_sign-clause-head
returns-else-is_sign-clause-head c = no_sign_answer c.args.alphabet c.args.first c.args.rest.now c.requires (sym c.if-begins_pair.ensures.test) (sym c.if-is_sign.ensures)
