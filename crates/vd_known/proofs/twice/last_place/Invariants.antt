use Rattle.std.proofs.Common.{◌≡◌, drop}
use Rattle.vd_known.specs.Clash as clash
use Rattle.vd_known.proofs.twice.last_place.Given as goal

abbrev pub invariant-loop-spot : goal.invariant-loop-spot
invariant-loop-spot l = clash.last_own l.fn.view 0 l.fn.spots ≡ clash.last_own l.fn.view l.place (drop l.spot-index l.fn.spots)
