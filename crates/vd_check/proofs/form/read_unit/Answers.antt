use Rattle.vd_check.specs.Form.{HasParts}
use Rattle.vd_check.proofs.Forms.{outlined_read}
use Rattle.vd_check.proofs.form.read_unit.Goals as goal

pub returns-in-Some : goal.returns-in-Some
returns-in-Some c = outlined_read c.args.text.now HasParts c.in-Some.outline (rw c.in-Some.is at c.in_ok-outline.ensures) c.parts_of.result c.parts_of.ensures
