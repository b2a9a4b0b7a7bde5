use Rattle.std.proofs.Common.{◌≡◌, true, take, flat_map}
use Rattle.std.specs.List.{list_all}
use Rattle.vd_known.specs.Known as known
use Rattle.vd_known.proofs.known.knows_props.Given as goal

abbrev pub invariant-loop-prop : goal.invariant-loop-prop
invariant-loop-prop l = list_all (known.is_met l.fn.view) (flat_map known.prop_needs (take l.prop-index l.fn.props)) ≡ true
