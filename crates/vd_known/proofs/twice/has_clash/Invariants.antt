use Rattle.std.proofs.Common.{◌≡◌, drop}
use Rattle.vd_known.specs.Clash as clash
use Rattle.vd_known.proofs.twice.has_clash.Given as goal

abbrev pub invariant-loop-at : goal.invariant-loop-at
invariant-loop-at l = clash.has_clash l.fn.view l.fn.spots ≡ clash.has_clash l.fn.view (drop l.at l.fn.spots)
