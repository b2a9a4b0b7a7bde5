use Rattle.vd_units.proofs.Places.{link_told}
use Rattle.vd_units.proofs.shape.is_link.Goals as goal

pub returns : goal.returns
returns c = rw c.tells_link.ensures (link_told c.args.text.now c.in_ok-head.head c.in_ok-head.ensures)
