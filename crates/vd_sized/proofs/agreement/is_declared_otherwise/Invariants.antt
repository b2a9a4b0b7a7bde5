use Rattle.std.proofs.Common.{take}
use Rattle.std.specs.List.{Any}
use Rattle.vd_sized.specs.Agreement.{DiffersAt}
use Rattle.vd_sized.proofs.agreement.is_declared_otherwise.Given as goal

abbrev pub invariant-loop-spot : goal.invariant-loop-spot
invariant-loop-spot l = Any (λ x. DiffersAt l.view.parts.now l.view.own l.content x.part x.section) (take l.spot-index l.spot-items) → ⊥
