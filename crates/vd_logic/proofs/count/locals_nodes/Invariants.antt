use Rattle.std.proofs.Common.{◌≡◌, take, map, min, sum, ◌^◌, ◌-◌}
use Rattle.vd_logic.specs.Nodes.{local_nodes}
use Rattle.vd_logic.proofs.count.locals_nodes.Given as goal

abbrev pub invariant-loop-local : goal.invariant-loop-local
invariant-loop-local l = l.total ≡ min (sum (map local_nodes (take l.local-index l.locals))) (2 ^ 64 - 1)
