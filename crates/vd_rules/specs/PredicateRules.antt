-- Rules 21 and 22: predicates by their definitions.
use Rattle.std.specs.Prelude.{Bool, List, None, Option, Some, [], length, map, nat_eq, slice_get, true, ℕ, ◌&&◌, ◌++◌, ◌∷◌}
use Rattle.vd_logic.specs.declared.step.Certificate.{Certificate}
use Rattle.vd_terms.specs.Assertions.{Assertion, Item, Label, Predicate, Scope, predicate_named}
use Rattle.vd_terms.specs.States.{State}
use Rattle.vd_terms.specs.Terms.{Name, Term}
use Rattle.vd_terms.specs.declared.assertion.ItemOf.TheVariants.{Pred}
use Rattle.vd_rules.specs.Assertions.{have_sorts}
use Rattle.vd_rules.specs.CallRules.{with_post}
use Rattle.vd_rules.specs.Changes.{add_items, add_variables, can_open, drop_item, fresh, with_items}
use Rattle.vd_rules.specs.Conditions.{required, tested, ◌>>=◌, ◌>>◌}
use Rattle.vd_rules.specs.Nodes.{Answer, Node, lifted}
use Rattle.vd_rules.specs.Opening.{with_terms}
use Rattle.vd_rules.specs.Proving.{are_proved}
use Rattle.vd_rules.specs.Reading.{resolved, sorted_terms}
use Rattle.vd_rules.specs.Taking.{pred_at, taken}
use Rattle.vd_rules.specs.Values.{owing}
use Rattle.vd_rules.specs.declared.checked.Checked.{Checked}
use Rattle.vd_rules.specs.declared.checked.Checked.TheVariants.{Passed}

-- the definition, with one or more cases
abbrev pub has_cases : Option Predicate → Option Predicate
has_cases None = None
has_cases (Some p) = elim p.cases [ [] ↦ None | c ∷ cs ↦ Some p ]

-- a predicate of the scope with its cases
unfoldable pub defined : Scope → Name → Option Predicate
defined scope name = has_cases (predicate_named scope name)

-- ---- 21 `fold P k ( args ) ( terms ) [by] ;` case k, from 0: PROP owed, items found and removed; adds P(args)

abbrev pub takes : Option Predicate → State → List Term → Bool
takes None s ts = true
takes (Some p) s ts = have_sorts p.args (map (resolved s) ts)

-- where it is declared, the arguments have its sorts
unfoldable pub fits_declared : Scope → State → Name → List Term → Bool
fits_declared scope s p ts = takes (predicate_named scope p) s ts

-- the case of a definition, from 0
unfoldable pub case_of : Scope → State → Name → ℕ → List Term → List Term → Checked Assertion
case_of scope s p k args ts = do
  tested 1 (fits_declared scope s p args)
  d ← required 7 (defined scope p)
  a ← required 1 (slice_get d.cases k)
  tested 1 (have_sorts a.opened (map (resolved s) ts))
  Passed a

-- the predicate
unfoldable pub folded_item : Name → List Term → List Item
folded_item p args = Pred (record { name = p; args = args }) ∷ []

-- PROP owed, the items of the case taken, the predicate given
unfoldable pub folded : State → Name → List Term → Assertion → List Certificate → Checked (List State)
folded s p args a by = do
  tested 3 (are_proved s.facts by (owing a.facts))
  left ← required 5 (taken a.items s.items)
  Passed (add_items (folded_item p args) (with_items left s) ∷ [])

-- the arguments, the terms, the case
unfoldable pub fold_state : Scope → State → Name → ℕ → List Term → List Term → List Certificate → Checked (List State)
fold_state scope s p k args ts by = do
  as_ ← required 1 (sorted_terms s args)
  us ← required 1 (sorted_terms s ts)
  a ← case_of scope s p k args ts
  folded s p as_ (with_terms a (as_ ++ us)) by

unfoldable pub fold : Scope → Node → Name → ℕ → List Term → List Term → List Certificate → Answer
fold scope n p k args ts by = lifted n (fold_state scope n.state p k args ts by)

-- ---- 22 `unfold N block .. ;` one child per case of predicate N, opened

-- the state of a case
unfoldable pub case_state : State → Label → Assertion → List Name → State
case_state s l a names = with_post (with_terms a (l.args ++ fresh s a.opened)) (add_variables names a.opened s)

-- the states of the cases in order
unfoldable pub case_states : State → Label → List Assertion → List (List Name) → List State
case_states s l [] bs = []
case_states s l (a ∷ cs) [] = []
case_states s l (a ∷ cs) (b ∷ bs) = case_state s l a b ∷ case_states s l cs bs

-- condition 6 of each block
unfoldable pub cases_open : State → List Assertion → List (List Name) → Bool
cases_open s [] bs = true
cases_open s (a ∷ cs) [] = true
cases_open s (a ∷ cs) (b ∷ bs) = can_open s b a.opened && cases_open s cs bs

unfoldable pub unfold_state : Scope → State → ℕ → List (List Name) → Checked (List State)
unfold_state scope s k blocks = do
  l ← required 1 (pred_at s k)
  d ← required 7 (defined scope l.name)
  tested 1 (nat_eq (length blocks) (length d.cases))
  tested 6 (cases_open s d.cases blocks)
  Passed (case_states (drop_item k s) l d.cases blocks)

unfoldable pub unfold_step : Scope → Node → ℕ → List (List Name) → Answer
unfold_step scope n k blocks = lifted n (unfold_state scope n.state k blocks)
