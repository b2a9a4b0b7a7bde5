use Rattle.vd_check.proofs.Forms.{no_unit, no_link, named_so, pair_found}
use Rattle.vd_check.proofs.form.read_pair.Goals as goal

pub returns-in_default : goal.returns-in_default
returns-in_default c = no_link c.args.unit.now c.args.link.now (rw c.in_default.is at c.in_ok-listing.ensures)

pub returns-in_default-2 : goal.returns-in_default-2
returns-in_default-2 c = no_unit c.args.unit.now c.args.link.now (rw c.in_default-2.is at c.in_ok-parts.ensures)

pub returns-then-not-are_named : goal.returns-then-not-are_named
returns-then-not-are_named c = λ p h.
    let same = c.are_named.ensures.1 (named_so c.args.unit.now c.args.link.now c.in-Some-2.parts c.in-Some.listing (rw c.in-Some-2.is at c.in_ok-parts.ensures) (rw c.in-Some.is at c.in_ok-listing.ensures) p h) in
    cc

pub returns : goal.returns
returns c = pair_found c.args.unit.now c.args.link.now c.in-Some-2.parts c.in-Some.listing (rw c.in-Some-2.is at c.in_ok-parts.ensures) (rw c.in-Some.is at c.in_ok-listing.ensures) (c.are_named.ensures.0 c.if-not-are_named.false)
