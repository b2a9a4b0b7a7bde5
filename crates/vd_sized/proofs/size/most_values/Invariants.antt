use Rattle.std.proofs.Common.{take}
use Rattle.std.specs.List.{All}
use Rattle.vd_sized.specs.Sizes.{HasEnough}
use Rattle.vd_sized.proofs.size.most_values.Given as goal

abbrev pub invariant-loop-section : goal.invariant-loop-section
invariant-loop-section l = All (λ h. HasEnough l.most h.content) (take l.section-index l.section-items)
