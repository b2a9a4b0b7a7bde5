use Rattle.std.proofs.Common.{◌≡◌, take, map}
use Rattle.vd_logic_grammar.specs.Variables.{numbered_assertion, hides_in_case}
use Rattle.vd_assertion_text.proofs.sections.number_cases.Given as goal

abbrev pub invariant-loop-case : goal.invariant-loop-case
invariant-loop-case l = (l.found ≡ map (numbered_assertion l.names) (take l.case-index l.cases)) × (l.hides ≡ hides_in_case l.names (take l.case-index l.cases))
