use Rattle.std.proofs.Common.{◌≡◌, take, map}
use Rattle.vd_logic.specs.Parts.{map_item}
use Rattle.vd_logic.specs.Substitution.{substituted}
use Rattle.vd_logic.proofs.substitution.in_items.Given as goal

abbrev pub invariant-loop-item : goal.invariant-loop-item
invariant-loop-item l = l.found ≡ map (map_item (substituted l.terms)) (take l.item-index l.items)
