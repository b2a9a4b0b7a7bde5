use Rattle.std.proofs.Common.{sym}
use Rattle.vd_tokens.proofs.Firsts.{line_answer, stars_answer, open_answer, slash_answer, no_slash_answer}
use Rattle.vd_tokens.proofs.element.slash.Goals as goal

pub returns-then-starts_with-clause-head : goal.returns-then-starts_with-clause-head
returns-then-starts_with-clause-head c = line_answer c.args.alphabet c.args.rest.now c.split_at.result.1.now c.run_len.result (sym c.if-starts_with.ensures.test) c.split_at.ensures.back c.run_len.ensures.passes c.run_len.ensures.stops

pub returns-in-Some-clause-head : goal.returns-in-Some-clause-head
returns-in-Some-clause-head c = stars_answer c.args.alphabet c.args.rest.now c.split_at-then-starts_with-2.result.1.now c.in-Some.n (sym c.if-starts_with-2.ensures.test) c.split_at-then-starts_with-2.ensures.back c.in-Some.ensures.found

pub returns-in-None-clause-head : goal.returns-in-None-clause-head
returns-in-None-clause-head c = open_answer c.args.alphabet c.args.rest.now c.split_at-then-starts_with-2.result.1.now (sym c.if-starts_with-2.ensures.test) c.split_at-then-starts_with-2.ensures.back c.in-None.ensures.found

pub returns-then-is_sign-clause-head : goal.returns-then-is_sign-clause-head
returns-then-is_sign-clause-head c = slash_answer c.args.alphabet c.args.rest.now (sym c.if-starts_with.ensures.test) (sym c.if-starts_with-2.ensures.test) (sym c.if-is_sign.ensures)

pub returns-else-is_sign-clause-head : goal.returns-else-is_sign-clause-head
returns-else-is_sign-clause-head c = no_slash_answer c.args.alphabet c.args.rest.now (sym c.if-starts_with.ensures.test) (sym c.if-starts_with-2.ensures.test) (sym c.if-is_sign.ensures)
