use Rattle.std.proofs.Common.{◌≡◌, true, take, flat_map}
use Rattle.std.specs.List.{list_all}
use Rattle.vd_known.specs.Known as known
use Rattle.vd_known.proofs.known.knows_values.Given as goal

abbrev pub invariant-loop-value : goal.invariant-loop-value
invariant-loop-value l = list_all (known.is_met l.fn.view) (flat_map known.value_needs (take l.value-index l.fn.values)) ≡ true
