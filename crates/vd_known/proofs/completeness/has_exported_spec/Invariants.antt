use Rattle.std.proofs.Common.{◌≡◌, false, take}
use Rattle.std.specs.List.{list_any}
use Rattle.vd_heads.specs.Views.{is_marked}
use Rattle.vd_known.proofs.completeness.has_exported_spec.Given as goal

abbrev pub invariant-loop-spot : goal.invariant-loop-spot
invariant-loop-spot l = list_any (λ x. is_marked l.fn.view.exported.items x.part) (take l.spot-index l.spot-items) ≡ false
