use Rattle.std.proofs.Common.{◌≡◌, drop}
use Rattle.std.specs.List.{find}
use Rattle.vd_heads.specs.Views.{is_marked}
use Rattle.vd_heads.proofs.view.View.first_seen.Given as goal

abbrev pub invariant-loop-spot : goal.invariant-loop-spot
invariant-loop-spot l = find (λ spot. is_marked l.self.closure.items spot.part) (drop l.spot-index l.spots) ≡ find (λ spot. is_marked l.self.closure.items spot.part) l.spots
