use Rattle.std.proofs.Common.{◌≡◌, ◌==◌, false, take}
use Rattle.std.specs.List.{list_any}
use Rattle.vd_known.proofs.completeness.has_own.Given as goal

abbrev pub invariant-loop-spot : goal.invariant-loop-spot
invariant-loop-spot l = list_any (λ x. x.part == l.fn.view.own) (take l.spot-index l.spot-items) ≡ false
