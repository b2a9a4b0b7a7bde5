use Rattle.std.proofs.Common.{take}
use Rattle.std.specs.List.{Any, flat_map}
use Rattle.vd_heads.specs.Assertions.{item_labels}
use Rattle.vd_sized.specs.Agreement.{IsMisused}
use Rattle.vd_sized.proofs.agreement.are_misuses.Given as goal

abbrev pub invariant-loop-item : goal.invariant-loop-item
invariant-loop-item l = Any (IsMisused l.view.parts.now l.view.own) (flat_map item_labels (take l.item-index l.items)) → ⊥
