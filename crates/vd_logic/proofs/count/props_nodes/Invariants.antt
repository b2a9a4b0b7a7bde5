use Rattle.std.proofs.Common.{◌≡◌, take, map, min, sum, ◌^◌, ◌-◌}
use Rattle.vd_logic.specs.Nodes.{prop_nodes}
use Rattle.vd_logic.proofs.count.props_nodes.Given as goal

abbrev pub invariant-loop-prop : goal.invariant-loop-prop
invariant-loop-prop l = l.total ≡ min (sum (map prop_nodes (take l.prop-index l.props))) (2 ^ 64 - 1)
