use Rattle.std.proofs.Common.{◌≡◌, true, take, flat_map}
use Rattle.std.specs.List.{list_all}
use Rattle.vd_known.specs.Known as known
use Rattle.vd_known.specs.Names.{names_of}
use Rattle.vd_known.proofs.known.knows_locals.Given as goal

abbrev pub invariant-loop-local : goal.invariant-loop-local
invariant-loop-local l = list_all (known.is_met l.fn.view) (flat_map (known.local_needs (names_of l.fn.names)) (take l.local-index l.fn.locals)) ≡ true
