-- The code's count of nesting as the definition's.
use Rattle.std.specs.Prelude.{ℕ, ◌≡◌, List, reverse}
use Rattle.vd_logic_grammar.specs.declared.depth.Depth.{Depth}
use Rattle.vd_logic_grammar.specs.Nesting.{Nested, depth_of_elements}

-- the elements of each open bracket, the innermost first
abbrev pub elements_of : Depth → List ℕ
elements_of d = reverse d.elements

abbrev pub nested_of : Depth → Nested
nested_of d = record { elements = elements_of d; operators = d.operators; begins_element = d.begins_element }

-- the total is that of the elements
abbrev pub IsCounted : Depth → Type 0
IsCounted d = d.total ≡ depth_of_elements (elements_of d)
