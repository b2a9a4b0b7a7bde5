use Rattle.std.proofs.Common.{◌≡◌, take}
use Rattle.vd_assertion_text.proofs.numbering.with_result.Given as goal

abbrev pub invariant-loop-name : goal.invariant-loop-name
invariant-loop-name l = l.found ≡ take l.name-index l.names
