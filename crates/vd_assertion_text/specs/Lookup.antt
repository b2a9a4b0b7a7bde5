-- What a table of variables says of a name.
use Rattle.std.specs.Prelude.{ℕ, ◌≡◌, List, length, Option}
use Rattle.std.specs.BTreeMap.{get_by}
use Rattle.std.specs.Cmp.Lexicographic.{slice_cmp}
use Rattle.std.specs.Ordering.{nat_cmp}
use Rattle.vd_logic.specs.declared.term.Sort.{Sort}
use Rattle.vd_logic_grammar.specs.Variables.{variable_from, hides}
use Rattle.vd_assertion_text.specs.declared.variables.Variables.{Variables}

-- the variable that a name stands for
abbrev pub variable_in : Variables → List ℕ → Option (ℕ × Sort)
variable_in variables name = get_by (λ k. slice_cmp nat_cmp name k.now) variables.numbers

-- the table has these names, in their order
pub record Stands (variables : Variables) (names : List (List ℕ × Sort)) : Type 0 where
  pub count : variables.count ≡ length names
  pub numbers : (name : List ℕ) → variable_in variables name ≡ variable_from 0 names name
  pub hides : variables.hides ≡ hides names
