use Rattle.std.proofs.Common.{◌≡◌, take, map}
use Rattle.vd_logic_grammar.specs.Variables.{numbered}
use Rattle.vd_assertion_text.specs.Lookup.{variable_in}
use Rattle.vd_assertion_text.proofs.numbering.+number.Given as goal

abbrev pub invariant-in_terms-loop-arg : goal.invariant-in_terms-loop-arg
invariant-in_terms-loop-arg l = l.found ≡ map (numbered (variable_in l.variables)) (take l.arg-index l.args)
