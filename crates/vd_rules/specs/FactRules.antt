-- Rules 23 to 28, 36 and 38: facts, and what is known by them.
use Rattle.std.specs.List.{list_any}
use Rattle.std.specs.Option.{option_map}
use Rattle.std.specs.Prelude.{Bool, List, None, Option, Some, [], cond, false, map, nat_eq, not, slice_get, suc, true, ℕ, ◌&&◌, ◌||◌, ◌∷◌}
use Rattle.std.specs.Str.{bytes_eq}
use Rattle.vd_logic.specs.declared.assertion.Rel.TheVariants as rel
use Rattle.vd_logic.specs.declared.step.Certificate.{Certificate}
use Rattle.vd_logic.specs.declared.step.Forgotten.{Forgotten}
use Rattle.vd_logic.specs.declared.step.Forgotten.TheVariants as forgotten
use Rattle.vd_logic.specs.declared.step.Occurrence.{Occurrence}
use Rattle.vd_logic.specs.declared.step.Occurrence.TheVariants as occurrence
use Rattle.vd_logic.specs.declared.term.Sort.{Sort}
use Rattle.vd_terms.specs.Assertions.{Fact, map_fact, map_item}
use Rattle.vd_terms.specs.Replacing.{replaced}
use Rattle.vd_terms.specs.Sorts.{same_sort, sort_of}
use Rattle.vd_terms.specs.States.{State, count}
use Rattle.vd_terms.specs.Terms.{Name, Named, Term, Var}
use Rattle.vd_terms.specs.declared.assertion.FactOf.TheVariants.{Rel}
use Rattle.vd_rules.specs.Changes.{add_facts, add_variables, can_open, changed, drop_fact, local_named, set_local}
use Rattle.vd_rules.specs.Conditions.{required, tested, ◌>>=◌, ◌>>◌}
use Rattle.vd_rules.specs.Laws.{are_numerals, instance, law_named}
use Rattle.vd_rules.specs.Meeting.{owes_state}
use Rattle.vd_rules.specs.Nodes.{Answer, Goal, Node, Post, lifted, no_names}
use Rattle.vd_rules.specs.Normal.{normal}
use Rattle.vd_rules.specs.Occurring.{occurs, rewritten}
use Rattle.vd_rules.specs.Opening.{mentions}
use Rattle.vd_rules.specs.Proving.{is_absurd}
use Rattle.vd_rules.specs.Reading.{fact_of, resolved, terms_of}
use Rattle.vd_rules.specs.Taking.{differ}
use Rattle.vd_rules.specs.Values.{owing}
use Rattle.vd_rules.specs.declared.checked.Checked.{Checked}
use Rattle.vd_rules.specs.declared.checked.Checked.TheVariants.{Passed}
use Rattle.vd_rules.specs.declared.state.GoalOf.TheVariants.{Block, Loop, Pose}
use Rattle.vd_rules.specs.declared.state.OwedOf.TheVariants.{One}

-- ---- 23 `split prop block block ;` adds the prop, or its negation; for `=`, `<=`, `<`

-- what is so where a fact is not; an inequality has none here
unfoldable pub negation : Fact → Option Fact
negation (Rel rel.Eq a b) = Some (Rel rel.Ne a b)
negation (Rel rel.Le a b) = Some (Rel rel.Lt b a)
negation (Rel rel.Lt a b) = Some (Rel rel.Le b a)
negation p = None

unfoldable pub split_state : State → Fact → List Name → List Name → Checked (List State)
split_state s p first second = do
  q ← required 1 (fact_of s p)
  r ← required 1 (negation q)
  tested 6 (no_names first && no_names second)
  Passed (add_facts (q ∷ []) s ∷ add_facts (r ∷ []) s ∷ [])

unfoldable pub split : Node → Fact → List Name → List Name → Answer
split n p first second = lifted n (split_state n.state p first second)

-- ---- 24 `absurd [by] ;` ends the branch: PROP has a closed false relation, t != t, nil = cons, closed vi that differ equated, or isptr of
-- vi or undef; or one certificate for 0 <= -1 holds

unfoldable pub absurd_step : Node → List Certificate → Answer
absurd_step n by = do
  tested 3 (is_absurd n.state.facts by)
  Passed []

-- ---- 25 `have prop [by] ;` owes and adds it

unfoldable pub have_state : State → Fact → List Certificate → Checked (List State)
have_state s p by = do
  q ← required 1 (fact_of s p)
  owes_state s by (One q ∷ []) (add_facts (q ∷ []) s)

unfoldable pub have : Node → Fact → List Certificate → Answer
have n p by = lifted n (have_state n.state p by)

-- ---- 26 `law NAME ( terms ) [by] ;` owes the conditions, adds the conclusion

-- the conditions owed, the conclusion added
unfoldable pub law_with : State → List Fact × Fact → List Certificate → Checked (List State)
law_with s i by = owes_state s by (owing i.0) (add_facts (i.1 ∷ []) s)

-- an argument that the law asks to be a number and that is none in normal form, or is less than the law says, fails 1 and is not owed
unfoldable pub law_state : State → Name → List Term → List Certificate → Checked (List State)
law_state s name ts by = do
  r ← required 1 (law_named name)
  us ← required 1 (terms_of s r.sorts ts)
  tested 1 (are_numerals r us)
  law_with s (instance r us) by

unfoldable pub law_step : Node → Name → List Term → List Certificate → Answer
law_step n name ts by = lifted n (law_state n.state name ts by)

-- ---- 27 `subst x ;` the first PROP item x = t or t = x, x not in t, is removed and x replaced; 8: x is in a goal

-- a variable by its name: its number and its sort
abbrev pub variable_of : Name → ℕ → List (Name × Sort) → Option (ℕ × Sort)
variable_of name k [] = None
variable_of name k (v ∷ vs) = cond (bytes_eq v.0 name) (Some (k, v.1)) (variable_of name (suc k) vs)

abbrev pub is_variable : ℕ × Sort → Term → Bool
is_variable x (Var y r) = nat_eq x.0 y && same_sort x.1 r
is_variable x t = false

-- t, where the fact is x = t or t = x and x does not stand in t
unfoldable pub value_of : ℕ × Sort → Fact → Option Term
value_of x (Rel rel.Eq t u) =
    cond (is_variable x t && not (occurs x.0 u)) (Some u) (cond (is_variable x u && not (occurs x.0 t)) (Some t) None)
value_of x p = None

-- the first fact that tells the value of x, by its number
unfoldable pub told : ℕ × Sort → List Fact → Option (ℕ × Term)
told x [] = None
told x (p ∷ ps) = elim (value_of x p) [ Some t ↦ Some (0, t) | None ↦ option_map (λ y. (suc y.0, y.1)) (told x ps) ]

-- the variable stands in an assertion of the goal
unfoldable pub goal_mentions : ℕ → Goal → Bool
goal_mentions x (Loop i q) = mentions x i || mentions x q
goal_mentions x (Block a) = mentions x a
goal_mentions x (Pose a) = mentions x a

-- the postcondition as it is written, whereas a goal of the script is in normal form
unfoldable pub post_mentions : ℕ → Option Post → Bool
post_mentions x None = false
post_mentions x (Some p) = mentions x p.meaning

-- condition 8
unfoldable pub is_in_goal : ℕ → Option Post → List Goal → Bool
is_in_goal x post goals = list_any (goal_mentions x) goals || post_mentions x post

abbrev pub in_its_place : ℕ × Sort → Term → ℕ → Sort → Term
in_its_place x t y r = cond (is_variable x (Var y r)) t (Var y r)

-- a term with t for the variable
unfoldable pub put : ℕ × Sort → Term → Term → Term
put x t u = normal (replaced (in_its_place x t) Named u)

-- the value of a temporary with t for the variable
unfoldable pub put_local : ℕ × Sort → Term → Name × Option Term → Name × Option Term
put_local x t y = (y.0, option_map (put x t) y.1)

-- a state with t for the variable
unfoldable pub put_state : ℕ × Sort → Term → State → State
put_state x t s = record s {
  facts = map (map_fact (put x t)) s.facts;
  locals = map (put_local x t) s.locals;
  items = map (map_item (put x t)) s.items;
}

unfoldable pub subst_state : Option Post → List Goal → State → Name → Checked (List State)
subst_state post goals s name = do
  x ← required 1 (variable_of name 0 s.vars)
  t ← required 1 (told x s.facts)
  tested 8 (not (is_in_goal x.0 post goals))
  Passed (put_state x t.1 (drop_fact t.0 s) ∷ [])

unfoldable pub subst_step : Option Post → Node → Name → Answer
subst_step post n name = lifted n (subst_state post n.goals n.state name)

-- ---- 28 `rewrite [back] K prop J | sep N | local X ;` PROP K is t = u; replaces t by u, with `back` u by t; J is not K

-- t and u, where the fact is t = u
abbrev pub equation : Option Fact → Option (Term × Term)
equation (Some (Rel rel.Eq t u)) = Some (t, u)
equation p = None

abbrev pub turned : Bool → Term × Term → Term × Term
turned true e = (e.1, e.0)
turned false e = e

-- a term with the right side for the left
unfoldable pub rewrite_term : Term × Term → Term → Term
rewrite_term e t = normal (rewritten e.0 e.1 t)

-- at another fact
unfoldable pub rewrite_fact : State → ℕ → ℕ → Term × Term → Checked (List State)
rewrite_fact s k j e = do
  p ← required 1 (slice_get s.facts j)
  tested 1 (differ j k)
  Passed (record s { facts = changed j (map_fact (rewrite_term e)) s.facts } ∷ [])

-- at an item
unfoldable pub rewrite_item : State → ℕ → Term × Term → Checked (List State)
rewrite_item s j e = do
  i ← required 1 (slice_get s.items j)
  Passed (record s { items = changed j (map_item (rewrite_term e)) s.items } ∷ [])

-- at the value of a temporary
unfoldable pub rewrite_local : State → Name → Term × Term → Checked (List State)
rewrite_local s x e = do
  y ← required 4 (local_named x s.locals)
  Passed (set_local y.0 (Some (rewrite_term e y.1)) s ∷ [])

unfoldable pub rewrite_at : State → ℕ → Term × Term → Occurrence → Checked (List State)
rewrite_at s k e (occurrence.Prop j) = rewrite_fact s k j e
rewrite_at s k e (occurrence.Item j) = rewrite_item s j e
rewrite_at s k e (occurrence.Local x) = rewrite_local s x e

unfoldable pub rewrite_state : State → Bool → ℕ → Occurrence → Checked (List State)
rewrite_state s back k o = do
  e ← required 1 (equation (slice_get s.facts k))
  rewrite_at s k (turned back e) o

unfoldable pub rewrite : Node → Bool → ℕ → Occurrence → Answer
rewrite n back k o = lifted n (rewrite_state n.state back k o)

-- ---- 36 `forget prop K ;` or `forget local X ;` removes it

unfoldable pub forget_state : State → Forgotten → Checked (List State)
forget_state s (forgotten.Prop k) = do
  p ← required 1 (slice_get s.facts k)
  Passed (drop_fact k s ∷ [])
forget_state s (forgotten.Local x) = do
  y ← required 4 (local_named x s.locals)
  Passed (set_local y.0 None s ∷ [])

unfoldable pub forget : Node → Forgotten → Answer
forget n f = lifted n (forget_state n.state f)

-- ---- 38 `name x = t ;` opens x, adds x = t

-- a term with its sort
unfoldable pub named_term : State → Term → Option (Sort × Term)
named_term s t = option_map (λ r. (r, normal (resolved s t))) (sort_of (resolved s t))

-- the new variable equals the term
unfoldable pub with_name : State → Name → Sort × Term → State
with_name s x t = add_facts (Rel rel.Eq (Var (count s) t.0) t.1 ∷ []) (add_variables (x ∷ []) (t.0 ∷ []) s)

unfoldable pub name_state : State → Name → Term → Checked (List State)
name_state s x t = do
  u ← required 1 (named_term s t)
  tested 6 (can_open s (x ∷ []) (u.0 ∷ []))
  Passed (with_name s x u ∷ [])

unfoldable pub name_step : Node → Name → Term → Answer
name_step n x t = lifted n (name_state n.state x t)
