use Rattle.std.proofs.Common.{Err, ap}
use Rattle.vd_scopes.proofs.Placing.{bad_says, headless_says}
use Rattle.vd_scopes.proofs.contents.part_of.Goals as goal

pub returns-in-Err-NoHead : goal.returns-in-Err-NoHead
returns-in-Err-NoHead c = headless_says c.args.text.now c.broken_part.result (c.in-Err-NoHead.ensures.no_head (ap Err c.in-Err-NoHead.field-0-is)) c.broken_part.ensures

pub returns-in-Err-Bad : goal.returns-in-Err-Bad
returns-in-Err-Bad c = bad_says c.args.text.now c.in-Err-Bad.place c.broken_part-in-Err-Bad.result (c.in-Err-Bad.ensures.bad c.in-Err-Bad.place (ap Err c.in-Err-Bad.field-0-is)) c.broken_part-in-Err-Bad.ensures
