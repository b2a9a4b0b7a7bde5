use Rattle.std.proofs.Common.{◌≡◌, take, map}
use Rattle.vd_logic.specs.Parts.{map_prop}
use Rattle.vd_logic_grammar.specs.Variables.{numbered}
use Rattle.vd_assertion_text.specs.Lookup.{variable_in}
use Rattle.vd_assertion_text.proofs.numbering.in_props.Given as goal

abbrev pub invariant-loop-prop : goal.invariant-loop-prop
invariant-loop-prop l = l.found ≡ map (map_prop (numbered (variable_in l.variables))) (take l.prop-index l.props)
