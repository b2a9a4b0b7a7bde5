use Rattle.std.proofs.Common.{◌≡◌, true, take, flat_map}
use Rattle.std.specs.List.{list_all}
use Rattle.vd_known.specs.Known as known
use Rattle.vd_known.specs.Names.{names_of}
use Rattle.vd_known.proofs.known.knows_cases.Given as goal

abbrev pub invariant-loop-case : goal.invariant-loop-case
invariant-loop-case l = list_all (known.is_met l.fn.view) (flat_map (known.assertion_needs (names_of l.fn.names)) (take l.case-index l.fn.cases)) ≡ true
