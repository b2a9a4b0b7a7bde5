use Rattle.vd_check.specs.Form.{Lists}
use Rattle.vd_check.proofs.Forms.{outlined_read}
use Rattle.vd_check.proofs.form.read_link.Goals as goal

pub returns-in-Some : goal.returns-in-Some
returns-in-Some c = outlined_read c.args.text.now Lists c.in-Some.outline (rw c.in-Some.is at c.in_ok-outline.ensures) c.listing_of.result c.listing_of.ensures
