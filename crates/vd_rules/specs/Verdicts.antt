-- Verdicts: of a body, of a subsumption and of an initial predicate, by their scripts.
use Rattle.std.specs.Prelude.{List, None, Option, Some, [], false, length, map, pos, replicate, suc, true, ℕ, ◌++◌, ◌-◌, ◌∷◌}
use Rattle.vd_terms.specs.Assertions.{Assertion, Item, Scope, Spec, map_assertion}
use Rattle.vd_terms.specs.States.{State, local_of, sorts_of}
use Rattle.vd_terms.specs.Terms.{Global, Name, Nil, Number, Of2, Term}
use Rattle.vd_terms.specs.declared.assertion.ItemOf.TheVariants.{Data}
use Rattle.vd_terms.specs.declared.operation.Binary.TheVariants.{Cons}
use Rattle.vd_steps.specs.Code.{Expr, Function, Stmts}
use Rattle.vd_steps.specs.Code as c
use Rattle.vd_steps.specs.Script.{Steps}
use Rattle.vd_rules.specs.CallRules.{opens_none}
use Rattle.vd_rules.specs.Changes.{fits, variables_from}
use Rattle.vd_rules.specs.Nodes.{Node, Post}
use Rattle.vd_rules.specs.Normal.{normal}
use Rattle.vd_rules.specs.Opening.{with_terms}
use Rattle.vd_rules.specs.Tree.{Read, Run, Stopped, run}
use Rattle.vd_rules.specs.Values.{zero_value}
use Rattle.vd_rules.specs.declared.state.GoalOf.TheVariants.{Pose}

-- accepted, or refused at a step by a condition of a rule
pub data Verdict : Type 0 where
  Accepted : Verdict
  RefusedAt : ℕ → ℕ → ℕ → Verdict

abbrev pub verdict_of : Run ℕ → Verdict
verdict_of (Read last) = Accepted
verdict_of (Stopped k r d) = RefusedAt k r d

-- a script from a first node; condition 12 of rule 0 is tested of its state too
unfoldable pub verdict_from : Scope → Option Post → Node → Steps → Verdict
verdict_from scope post n steps = elim (fits n.state) [
  | false ↦ RefusedAt 0 0 12
  | true ↦ verdict_of (run scope post (Some n) 0 steps)
]

-- ---- a body

-- the parameters stand first, and have what the precondition says of them by their places; the other temporaries have no value
unfoldable pub entry_locals : List (Name × Term) → List Name → List Name → List (Name × Option Term)
entry_locals values params [] = []
entry_locals values [] (x ∷ xs) = (x, None) ∷ entry_locals values [] xs
entry_locals values (p ∷ ps) (x ∷ xs) = (x, local_of values p) ∷ entry_locals values ps xs

-- the precondition over the specification's variables
unfoldable pub entry_assertion : Spec → Assertion
entry_assertion spec = with_terms spec.pre (variables_from 0 (sorts_of spec.vars))

unfoldable pub entry_with : Spec → List Name → Assertion → State
entry_with spec temps a = record { vars = spec.vars; facts = a.facts; locals = entry_locals a.locals spec.params temps; items = a.items }

-- the state of the precondition
unfoldable pub entry_state : Spec → List Name → State
entry_state spec temps = entry_with spec temps (entry_assertion spec)

-- the specification's variables are the state's, then the result, then the opened ones
unfoldable pub post_of : Spec → Post
post_of spec = record { is_void = spec.is_void; meaning = record { bound = length spec.vars; inner = spec.post } }

unfoldable pub body_node : Spec → Function → Node
body_node spec f = record { state = entry_state spec f.temps; left = f.body; goals = [] }

unfoldable pub body_from : Scope → Spec → Function → Steps → Verdict
body_from scope spec f steps = verdict_from scope (Some (post_of spec)) (body_node spec f) steps

-- the verdict of a body by its script. A precondition opens nothing: the grammar has no place for it, and a head part that has it is one that fails
unfoldable pub body_verdict : Scope → Spec → Function → Steps → Verdict
body_verdict scope spec f steps = elim (opens_none spec.pre) [ false ↦ RefusedAt 0 0 1 | true ↦ body_from scope spec f steps ]

-- ---- a subsumption

abbrev pub temps_from : ℕ → List Name → List Expr
temps_from k [] = []
temps_from k (x ∷ xs) = c.Temp k ∷ temps_from (suc k) xs

abbrev pub call_of : Option ℕ → Spec → Stmts → Stmts
call_of x spec rest = c.Then (c.Call x spec.name (temps_from 0 spec.params)) rest

-- f(params); return;
abbrev pub calling_void : Spec → Function
calling_void spec = record { temps = spec.params; body = call_of None spec (c.Then (c.Return None) c.End) }

-- x = f(params); return x; where x is a temporary that no script can name
abbrev pub calling_value : Spec → Function
calling_value spec = record {
  temps = spec.params ++ [] ∷ [];
  body = call_of (Some (length spec.params)) spec (c.Then (c.Return (Some (c.Temp (length spec.params)))) c.End);
}

-- the body that calls the function with its parameters and returns the result
unfoldable pub calling : Spec → Function
calling spec = elim spec.is_void [ true ↦ calling_void spec | false ↦ calling_value spec ]

-- the function goes by the unit's specification
abbrev pub seen_by_own : Spec → Scope → Scope
seen_by_own own scope = record scope { specs = own ∷ scope.specs }

-- a function that is called by the unit's specification, against the interface's
unfoldable pub sub_verdict : Scope → Spec → Spec → Steps → Verdict
sub_verdict scope own wanted steps = body_verdict (seen_by_own own scope) wanted (calling wanted) steps

-- ---- an initial predicate

-- a global with its cells and the values that it starts with
pub record Initial : Type 0 where
  pub name : Name
  pub cells : ℕ
  pub values : List Term

abbrev pub list_term : List Term → Term
list_term [] = Nil
list_term (v ∷ vs) = Of2 Cons v (list_term vs)

-- the initial values and then zeros
unfoldable pub initial_values : Initial → List Term
initial_values g = g.values ++ replicate (g.cells - length g.values) zero_value

-- data(64, addr(g), l), the zeros listed one by one
unfoldable pub raw_item : Initial → Item
raw_item g = Data (Number (pos 64)) (Global g.name) (normal (list_term (initial_values g)))

abbrev pub raw_state : List Initial → State
raw_state globals = record { vars = []; facts = []; locals = []; items = map raw_item globals }

-- from the raw to the declared initial assertion
unfoldable pub init_node : List Initial → Assertion → Node
init_node globals wanted = record {
  state = raw_state globals;
  left = c.End;
  goals = Pose (record { bound = 0; inner = map_assertion normal wanted }) ∷ [];
}

unfoldable pub init_verdict : Scope → List Initial → Assertion → Steps → Verdict
init_verdict scope globals wanted steps = verdict_from scope None (init_node globals wanted) steps
