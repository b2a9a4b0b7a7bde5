-- What no reader, no typing and no head part lets through, and what would be unsound: each is refused by the rules themselves.
use Rattle.std.specs.Prelude.{◌≡◌, refl, codes, ℕ, pos, false, true, List, [], ◌∷◌, None, Some}
use Rattle.vd_logic.specs.declared.assertion.Rel.TheVariants as rel
use Rattle.vd_logic.specs.declared.step.CertLine.TheVariants as line
use Rattle.vd_logic.specs.declared.term.Sort.TheVariants as sort
use Rattle.vd_steps.specs.Code as c
use Rattle.vd_steps.specs.Code.{Function, Stmts}
use Rattle.vd_steps.specs.Script as s
use Rattle.vd_terms.specs.Assertions.{Assertion, Fact, Scope, Spec}
use Rattle.vd_terms.specs.Terms.{Name, Number, Of, Term, Var}
use Rattle.vd_terms.specs.declared.assertion.FactOf.TheVariants.{Rel}
use Rattle.vd_terms.specs.declared.operation.Unary.TheVariants as unary
use Rattle.vd_rules.specs.Computing.{computing}
use Rattle.vd_rules.specs.Verdicts.{RefusedAt, body_verdict}

abbrev vi : ℕ → Term
vi n = Of unary.Vi (Number (pos n))

abbrev empty : Assertion
empty = record { opened = []; facts = []; locals = []; items = [] }

abbrev with_fact : Fact → Assertion
with_fact p = record empty { facts = p ∷ [] }

abbrev with_local : Name → Term → Assertion
with_local x t = record empty { locals = (x, t) ∷ [] }

-- a result of 1
abbrev one : Assertion
one = with_fact (Rel rel.Eq (Var 0 sort.Val) (vi 1))

abbrev main : Spec
main = record { is_void = false; name = codes "main"; params = []; vars = []; pre = empty; post = one }

-- a function that returns nothing and owes nothing
abbrev callee : List Name → Assertion → Spec
callee params pre = record { is_void = true; name = codes "f"; params = params; vars = []; pre = pre; post = empty }

abbrev seeing : List Spec → Scope
seeing specs = record { predicates = []; specs = specs }

abbrev returns : ℕ → Stmts
returns n = c.Then (c.Return (Some (c.Const n))) c.End

abbrev without_temps : Stmts → Function
without_temps body = record { temps = []; body = body }

-- `split 0 = 1 ; absurd ;`, the split without its blocks: its second child would be lost
split_without_blocks : body_verdict (seeing []) main (without_temps (returns 0))
    (s.Then 1 (s.Split (Rel rel.Eq (Number (pos 0)) (Number (pos 1))) [] []) s.NoBlock (s.Then 2 (s.Absurd []) s.NoBlock s.End)) ≡ RefusedAt 1 23 1
unfolding computing
split_without_blocks = refl

-- a block for which there is no child
block_without_child : body_verdict (seeing []) main (without_temps (returns 1)) (s.Then 1 (s.Return [] [] []) (s.WithBlock s.End s.NoBlock) s.End) ≡ RefusedAt 1 9 1
unfolding computing
block_without_child = refl

-- a variable by its number in a pose, before the state has it: it would be opened twice, as 0 and as 1
variable_by_number : body_verdict (seeing []) main (without_temps (returns 0))
    (s.Then 1 (s.Pose (with_fact (Rel rel.Eq (Var 0 sort.Int) (Number (pos 0)))) [] [])
    (s.WithBlock (s.Then 2 (s.Naming (codes "x") (Number (pos 0))) s.NoBlock (s.Then 3 (s.Meet [] []) s.NoBlock s.End)) s.NoBlock)
    (s.Then 4 (s.Naming (codes "y") (Number (pos 1))) s.NoBlock
    (s.Then 5 (s.Absurd (record { lines = line.Comb ((pos 1, 0) ∷ (pos 1, 3) ∷ []) ∷ [] } ∷ [])) s.NoBlock s.End))) ≡ RefusedAt 1 12 1
unfolding computing
variable_by_number = refl

-- an opened variable under another sort
opened_under_another_sort : body_verdict (seeing []) main (without_temps (returns 0))
    (s.Then 1 (s.Pose (record (with_fact (Rel rel.Eq (Var 0 sort.Val) (vi 0))) { opened = sort.Int ∷ [] }) [] []) s.NoBlock s.End) ≡ RefusedAt 1 12 1
unfolding computing
opened_under_another_sort = refl

-- two temporaries of one name: LOCAL speaks of both, and the second is 0
abbrev twins : Function
twins = record {
  temps = codes "t" ∷ codes "t" ∷ [];
  body = c.Then (c.Set 0 (c.Const 1)) (c.Then (c.Set 1 (c.Const 0)) (c.Then (c.Return (Some (c.Temp 1))) c.End));
}

temporaries_of_one_name : body_verdict (seeing []) main twins
    (s.Then 1 (s.Set [] []) s.NoBlock (s.Then 2 (s.Set [] []) s.NoBlock
    (s.Then 3 (s.Pose (with_local (codes "t") (vi 1)) [] []) (s.WithBlock (s.Then 4 (s.Meet [] []) s.NoBlock s.End) s.NoBlock)
    (s.Then 5 (s.Return [] [] []) s.NoBlock s.End)))) ≡ RefusedAt 4 37 4
unfolding computing
temporaries_of_one_name = refl

-- two parameters of one name: the precondition speaks of both, and the second argument is 0
abbrev calls : Stmts
calls = c.Then (c.Call None (codes "f") (c.Const 1 ∷ c.Const 0 ∷ [])) (returns 1)

parameters_of_one_name : body_verdict (seeing (callee (codes "x" ∷ codes "x" ∷ []) (with_local (codes "x") (vi 1)) ∷ [])) main (without_temps calls)
    (s.Then 1 (s.Call [] [] [] []) s.NoBlock s.End) ≡ RefusedAt 1 13 4
unfolding computing
parameters_of_one_name = refl

-- a temporary with the name of a parameter: it has no value at the start
temporary_named_as_parameter : body_verdict (seeing []) (record main { params = codes "x" ∷ []; pre = with_local (codes "x") (vi 1) })
    (record { temps = codes "x" ∷ codes "x" ∷ []; body = c.Then (c.Return (Some (c.Temp 1))) c.End })
    (s.Then 1 (s.Return [] [] []) s.NoBlock s.End) ≡ RefusedAt 1 9 2
unfolding computing
temporary_named_as_parameter = refl

-- a precondition that opens a variable, of the body and of a function that is called
precondition_opens : body_verdict (seeing []) (record main { pre = record empty { opened = sort.Int ∷ [] } }) (without_temps (returns 1))
    (s.Then 1 (s.Return [] [] []) s.NoBlock s.End) ≡ RefusedAt 0 0 1
unfolding computing
precondition_opens = refl

called_precondition_opens : body_verdict (seeing (callee [] (record empty { opened = sort.Int ∷ [] }) ∷ [])) main
    (without_temps (c.Then (c.Call None (codes "f") []) (returns 1))) (s.Then 1 (s.Call [] [] [] []) s.NoBlock s.End) ≡ RefusedAt 1 13 1
unfolding computing
called_precondition_opens = refl

-- a result kept of a function that returns nothing, and a value that it returns
kept_of_nothing : body_verdict (seeing (callee [] empty ∷ [])) main
    (record { temps = codes "t" ∷ []; body = c.Then (c.Call (Some 0) (codes "f") []) (c.Then (c.Return (Some (c.Temp 0))) c.End) })
    (s.Then 1 (s.Call [] [] [] []) s.NoBlock s.End) ≡ RefusedAt 1 13 1
unfolding computing
kept_of_nothing = refl

value_of_nothing : body_verdict (seeing []) (record main { is_void = true }) (without_temps (returns 1))
    (s.Then 1 (s.Return [] [] []) s.NoBlock s.End) ≡ RefusedAt 1 9 1
unfolding computing
value_of_nothing = refl
