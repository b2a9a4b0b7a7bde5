use Rattle.std.proofs.Common.{◌≡◌, take}
use Rattle.vd_logic_grammar.specs.Variables.{sorts_of}
use Rattle.vd_assertion_text.proofs.numbering.sorts_of.Given as goal

abbrev pub invariant-loop-name : goal.invariant-loop-name
invariant-loop-name l = l.found ≡ sorts_of (take l.name-index l.names)
