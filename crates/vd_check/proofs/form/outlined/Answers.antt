use Rattle.std.proofs.Common.{refl}
use Rattle.vd_check.proofs.Forms.{headless}
use Rattle.vd_check.proofs.form.outlined.Goals as goal

pub returns-in-Err-NoHead : goal.returns-in-Err-NoHead
returns-in-Err-NoHead c = headless c.args.text.now (rw c.in-Err-NoHead.field-0-is at c.in-Err-NoHead.ensures.no_head refl)
