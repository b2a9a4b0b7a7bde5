use Rattle.std.proofs.Common.{rules}
use Rattle.vd_check.proofs.Forms.{no_units, listing_found}
use Rattle.vd_check.proofs.form.listing_of.Goals as goal

pub returns-in_default : goal.returns-in_default
returns-in_default c = no_units c.args.outline.now c.as_slice.result.now c.as_slice.ensures (rw c.in_default.is at c.in_ok-units.ensures)

pub returns : goal.returns
returns c = listing_found c.args.outline.now c.as_slice.result.now c.as_slice.ensures c.in_ok-name.name c.in-Some.units (search rules) c.in_ok-name.ensures (rw c.in-Some.is at c.in_ok-units.ensures)
