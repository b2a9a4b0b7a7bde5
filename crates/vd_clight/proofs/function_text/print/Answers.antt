use Rattle.std.proofs.Common.{rules}
use Rattle.vd_clight.proofs.Joining.{printed_is}
use Rattle.vd_clight.proofs.function_text.print.Goals as goal

pub returns : goal.returns
returns c = rw (printed_is c.args.f.now) (search rules)
