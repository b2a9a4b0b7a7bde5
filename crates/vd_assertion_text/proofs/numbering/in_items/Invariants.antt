use Rattle.std.proofs.Common.{◌≡◌, take, map}
use Rattle.vd_logic.specs.Parts.{map_item}
use Rattle.vd_logic_grammar.specs.Variables.{numbered}
use Rattle.vd_assertion_text.specs.Lookup.{variable_in}
use Rattle.vd_assertion_text.proofs.numbering.in_items.Given as goal

abbrev pub invariant-loop-item : goal.invariant-loop-item
invariant-loop-item l = l.found ≡ map (map_item (numbered (variable_in l.variables))) (take l.item-index l.items)
