use Rattle.std.proofs.Common.{◌≡◌, true, take, flat_map}
use Rattle.std.specs.List.{list_all}
use Rattle.vd_known.specs.Known as known
use Rattle.vd_known.proofs.known.+term.Given as goal

abbrev pub invariant-knows_terms-loop-term : goal.invariant-knows_terms-loop-term
invariant-knows_terms-loop-term l = list_all (known.is_met l.fn.view) (flat_map known.term_needs (take l.term-index l.fn.terms)) ≡ true
