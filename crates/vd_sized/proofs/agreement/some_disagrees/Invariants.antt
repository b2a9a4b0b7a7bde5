use Rattle.std.proofs.Common.{take}
use Rattle.std.specs.List.{Any}
use Rattle.vd_sized.specs.Agreement.{Disagrees}
use Rattle.vd_sized.proofs.agreement.some_disagrees.Given as goal

abbrev pub invariant-loop-a : goal.invariant-loop-a
invariant-loop-a l = Any (Disagrees l.view.parts.now l.view.own) (take l.a-index l.assertions) → ⊥
