use Rattle.std.proofs.Common.{List, ℕ, ◌++◌, take}
use Rattle.vd_logic.specs.declared.term.Sort.{Sort}
use Rattle.vd_assertion_text.specs.Lookup.{Stands}
use Rattle.vd_assertion_text.proofs.variables.Variables.add_all.Given as goal

abbrev pub invariant-names : goal.invariant-names
invariant-names l = (before : List (List ℕ × Sort)) → Stands l.fn.self before → Stands l.self (before ++ take l.name-index l.names)
