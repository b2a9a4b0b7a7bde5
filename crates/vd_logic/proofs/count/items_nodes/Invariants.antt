use Rattle.std.proofs.Common.{◌≡◌, take, map, min, sum, ◌^◌, ◌-◌}
use Rattle.vd_logic.specs.Nodes.{item_nodes}
use Rattle.vd_logic.proofs.count.items_nodes.Given as goal

abbrev pub invariant-loop-item : goal.invariant-loop-item
invariant-loop-item l = l.total ≡ min (sum (map item_nodes (take l.item-index l.items))) (2 ^ 64 - 1)
