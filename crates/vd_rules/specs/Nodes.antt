-- Nodes of a script's tree: a state, the statements left to run, and the goals.
use Rattle.std.specs.Option.{option_map}
use Rattle.std.specs.Prelude.{Bool, List, None, Option, Some, [], false, map, suc, true, zero, ℕ, ◌∷◌}
use Rattle.vd_terms.specs.States.{State}
use Rattle.vd_terms.specs.Terms.{Name, Term}
use Rattle.vd_steps.specs.Code.{Stmts}
use Rattle.vd_steps.specs.Code as c
use Rattle.vd_rules.specs.declared.checked.Checked.{Checked}
use Rattle.vd_rules.specs.declared.checked.Checked.TheVariants.{Passed, Refused}
use Rattle.vd_rules.specs.declared.state.GoalOf.{GoalOf}
use Rattle.vd_rules.specs.declared.state.NodeOf.{NodeOf}
use Rattle.vd_rules.specs.declared.state.PostOf.{PostOf}

-- a loop's invariant and break assertion, a block's assertion, a pose's
abbrev pub Goal : Type 0
Goal = GoalOf Term

-- the innermost goal first
abbrev pub Node : Type 0
Node = NodeOf Term Stmts

-- a postcondition, whose first opened variable is the result
abbrev pub Post : Type 0
Post = PostOf Term

-- the children of a node, or the first condition of the rule that fails
abbrev pub Answer : Type 0
Answer = Checked (List Node)

abbrev pub only : Node → Answer
only n = Passed (n ∷ [])

-- the node behind a statement
abbrev pub next : Stmts → State → Node → Node
next rest s n = record n { state = s; left = rest }

-- the node with another state
abbrev pub at_state : State → Node → Node
at_state s n = record n { state = s }

-- the node with other statements and one more goal
abbrev pub towards : Goal → Stmts → State → Node → Node
towards g left s n = record { state = s; left = left; goals = g ∷ n.goals }

-- the answer of a rule that changes the state alone
unfoldable pub lifted : Node → Checked (List State) → Answer
lifted n (Passed ss) = Passed (map (λ s. at_state s n) ss)
lifted n (Refused c) = Refused c

-- the answer of a rule that passes a statement and changes the state
unfoldable pub passed : Stmts → Node → Checked (List State) → Answer
passed rest n (Passed ss) = Passed (map (λ s. next rest s n) ss)
passed rest n (Refused c) = Refused c

-- ---- statements

-- the statements of the first, then those of the second
abbrev pub followed : Stmts → Stmts → Stmts
followed c.End rest = rest
followed (c.Then x xs) rest = c.Then x (followed xs rest)

abbrev pub is_end : Stmts → Bool
is_end c.End = true
is_end (c.Then x xs) = false

-- the first n statements and the others, where there are as many
abbrev pub divided : ℕ → Stmts → Option (Stmts × Stmts)
divided zero xs = Some (c.End, xs)
divided (suc n) c.End = None
divided (suc n) (c.Then x xs) = option_map (λ p. (c.Then x p.0, p.1)) (divided n xs)

abbrev pub no_names : List Name → Bool
no_names [] = true
no_names (n ∷ ns) = false
