-- Symbolic states over plain terms.
use Rattle.std.specs.Prelude.{ℕ, List, [], ◌∷◌, map, length, cond, Option, Some, None}
use Rattle.std.specs.Str.{bytes_eq}
use Rattle.vd_logic.specs.declared.term.Sort.{Sort}
use Rattle.vd_terms.specs.Terms.{Name, Term}
use Rattle.vd_terms.specs.declared.state.StateOf.{StateOf}

-- variables by number, never taken away; PROP; LOCAL, a place for each parameter and temporary; SEP
abbrev pub State : Type 0
State = StateOf Term

-- how many variables there are; the next one has this number
abbrev pub count : State → ℕ
count s = length s.vars

-- the sorts of the variables, by number
abbrev pub sorts_of : List (Name × Sort) → List Sort
sorts_of vars = map (λ v. v.1) vars

-- the term that an assertion gives a parameter or temporary, the first of its name, where it gives one
abbrev pub local_of : List (Name × Term) → Name → Option Term
local_of [] name = None
local_of (x ∷ xs) name = cond (bytes_eq x.0 name) (Some x.1) (local_of xs name)

-- a place for each of the names, with the term that an assertion gives it
abbrev pub named_locals : List (Name × Term) → List Name → List (Name × Option Term)
named_locals locals [] = []
named_locals locals (x ∷ xs) = (x, local_of locals x) ∷ named_locals locals xs
