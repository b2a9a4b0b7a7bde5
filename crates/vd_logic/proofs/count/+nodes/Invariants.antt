use Rattle.std.proofs.Common.{◌≡◌, take, map, min, sum, ◌^◌, ◌-◌}
use Rattle.vd_logic.specs.Nodes.{term_nodes}
use Rattle.vd_logic.proofs.count.+nodes.Given as goal

abbrev pub invariant-all_nodes-loop-term : goal.invariant-all_nodes-loop-term
invariant-all_nodes-loop-term l = l.total ≡ min (sum (map term_nodes (take l.term-index l.terms))) (2 ^ 64 - 1)
