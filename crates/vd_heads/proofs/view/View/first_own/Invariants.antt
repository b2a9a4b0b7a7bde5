use Rattle.std.proofs.Common.{◌≡◌, ◌==◌, drop}
use Rattle.std.specs.List.{find}
use Rattle.vd_heads.proofs.view.View.first_own.Given as goal

abbrev pub invariant-loop-spot : goal.invariant-loop-spot
invariant-loop-spot l = find (λ spot. spot.part == l.self.own) (drop l.spot-index l.spots) ≡ find (λ spot. spot.part == l.self.own) l.spots
