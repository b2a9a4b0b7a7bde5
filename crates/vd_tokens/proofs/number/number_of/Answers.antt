use Rattle.std.proofs.Common.{sym, ◌∙◌, arith}
use Rattle.vd_tokens.proofs.Numbers.{exceeds}
use Rattle.vd_tokens.proofs.number.number_of.Goals as goal

pub returns-in_err-number-in-len1-up : goal.returns-in_err-number-in-len1-up
returns-in_err-number-in-len1-up c = c.from_residual.ensures ∙ sym (exceeds c.args.most c.digits.number c.digits.left.now c.args.spelling.now (omega arith) (sym c.if-is_digit.ensures) c.digits.invariant.0 (sym c.with_digit.ensures ∙ c.in_err-number-in-len1-up.was))
