use Rattle.std.proofs.Common.{◌≡◌, true, take, flat_map}
use Rattle.std.specs.List.{list_all}
use Rattle.vd_known.specs.Known as known
use Rattle.vd_known.proofs.known.knows_items.Given as goal

abbrev pub invariant-loop-item : goal.invariant-loop-item
invariant-loop-item l = list_all (known.is_met l.fn.view) (flat_map known.item_needs (take l.item-index l.fn.items)) ≡ true
