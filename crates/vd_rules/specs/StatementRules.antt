-- Rules 1 to 5: a statement without calls, memory or goals of its own.
use Rattle.std.specs.Prelude.{List, None, Option, Some, [], ℕ, ◌&&◌, ◌++◌, ◌∷◌}
use Rattle.vd_logic.specs.declared.step.Certificate.{Certificate}
use Rattle.vd_clight.specs.declared.typed.Root.{Root}
use Rattle.vd_terms.specs.States.{State}
use Rattle.vd_terms.specs.Terms.{Name, Of2, Of3, Term}
use Rattle.vd_terms.specs.declared.assertion.ItemOf.TheVariants.{Data}
use Rattle.vd_terms.specs.declared.operation.Binary.TheVariants.{Nth}
use Rattle.vd_terms.specs.declared.operation.Ternary.TheVariants.{Upd}
use Rattle.vd_steps.specs.Code.{Cond, Expr, Path, Stmts}
use Rattle.vd_steps.specs.Code as c
use Rattle.vd_rules.specs.Branching.{condition}
use Rattle.vd_rules.specs.Changes.{add_facts, replace_item, set_local}
use Rattle.vd_rules.specs.Conditions.{required, tested, ◌>>=◌, ◌>>◌}
use Rattle.vd_rules.specs.Meeting.{owes_state}
use Rattle.vd_rules.specs.Nodes.{Answer, Node, followed, next, no_names, only, passed}
use Rattle.vd_rules.specs.Normal.{normal}
use Rattle.vd_rules.specs.Proving.{Owed, are_proved}
use Rattle.vd_rules.specs.Taking.{data_at}
use Rattle.vd_rules.specs.Values.{Valued, address, distance, finished, value, whole_share, within}
use Rattle.vd_rules.specs.declared.checked.Checked.{Checked}
use Rattle.vd_rules.specs.declared.checked.Checked.TheVariants.{Passed}

-- ---- 1 `skip ;` passes `;`

abbrev pub as_skip : Stmts → Option Stmts
as_skip (c.Then c.Skip rest) = Some rest
as_skip xs = None

unfoldable pub skip : Node → Answer
skip n = do
  rest ← required 1 (as_skip n.left)
  only (next rest n.state n)

-- ---- 2 `set [at] [by] ;` sets a temporary to a value

abbrev pub as_set : Stmts → Option (ℕ × Expr × Stmts)
as_set (c.Then (c.Set x e) rest) = Some (x, e, rest)
as_set xs = None

-- the value
unfoldable pub set_state : State → ℕ → Expr → List ℕ → List Certificate → Checked (List State)
set_state s x e covers by = do
  v ← finished (value s e covers)
  owes_state s by v.owed (set_local x (Some v.value) s)

unfoldable pub set : Node → List ℕ → List Certificate → Answer
set n covers by = do
  st ← required 1 (as_set n.left)
  passed st.2 n (set_state n.state st.0 st.1 covers by)

-- ---- 3 `load N [at] [by] ;` item N is data covering the place at i; the temporary is nth(l, i)

abbrev pub as_load : Stmts → Option (ℕ × Root × Path × Stmts)
as_load (c.Then (c.Load x r p) rest) = Some (x, r, p, rest)
as_load xs = None

-- the address lies in the data: the cover is owed behind it
unfoldable pub loaded : State → ℕ → Term × Term × Term → Valued Term → List Certificate → Checked (List State)
loaded s x d a by = do
  i ← required 1 (distance d.1 a.value)
  owes_state s by (a.owed ++ within i d.2) (set_local x (Some (normal (Of2 Nth d.2 i))) s)

-- the item and the address
unfoldable pub load_state : State → ℕ → Root → Path → ℕ → List ℕ → List Certificate → Checked (List State)
load_state s x r p k covers by = do
  d ← required 1 (data_at s k)
  a ← finished (address s r p covers)
  loaded s x d a by

unfoldable pub load : Node → ℕ → List ℕ → List Certificate → Answer
load n k covers by = do
  st ← required 1 (as_load n.left)
  passed st.3 n (load_state n.state st.0 st.1 st.2 k covers by)

-- ---- 4 `store N [at] [by] ;` owes the cover and 64 <= s; item N's list is upd(l, i, v)

abbrev pub as_store : Stmts → Option (Root × Path × Expr × Stmts)
as_store (c.Then (c.Store r p e) rest) = Some (r, p, e, rest)
as_store xs = None

-- what the place owes, then the value, then the cover and the whole share
unfoldable pub store_owes : Term × Term × Term → Valued Term → Term → Valued Term → List Owed
store_owes d a i v = a.owed ++ (v.owed ++ (within i d.2 ++ whole_share d.0 ∷ []))

-- data with another list
unfoldable pub stored_in : State → ℕ → Term × Term × Term → Term → Term → State
stored_in s k d i v = replace_item k (Data d.0 d.1 (normal (Of3 Upd d.2 i v))) s

-- the value is taken behind the address
unfoldable pub stored : State → ℕ → Term × Term × Term → Valued Term → Expr → List Certificate → Checked (List State)
stored s k d a e by = do
  i ← required 1 (distance d.1 a.value)
  v ← finished (value s e a.covers)
  owes_state s by (store_owes d a i v) (stored_in s k d i v.value)

-- the item and the address
unfoldable pub store_state : State → Root → Path → Expr → ℕ → List ℕ → List Certificate → Checked (List State)
store_state s r p e k covers by = do
  d ← required 1 (data_at s k)
  a ← required 2 (address s r p covers)
  stored s k d a e by

unfoldable pub store : Node → ℕ → List ℕ → List Certificate → Answer
store n k covers by = do
  st ← required 1 (as_store n.left)
  passed st.3 n (store_state n.state st.0 st.1 st.2 k covers by)

-- ---- 5 `if [at] [by] block block ;` two children, branch then rest

abbrev pub as_if : Stmts → Option (Cond × Stmts × Stmts × Stmts)
as_if (c.Then (c.If d a b) rest) = Some (d, a, b, rest)
as_if xs = None

-- the states of the true child and of the false one
unfoldable pub branch_states : State → Cond → List ℕ → List Certificate → Checked (State × State)
branch_states s d covers by = do
  b ← finished (condition s d covers)
  tested 3 (are_proved s.facts by b.owed)
  Passed (add_facts (b.value.0 ∷ []) s, add_facts (b.value.1 ∷ []) s)

unfoldable pub if_children : Node → Stmts → Stmts → Stmts → State × State → List Node
if_children n a b rest ss = next (followed a rest) ss.0 n ∷ next (followed b rest) ss.1 n ∷ []

unfoldable pub if_step : Node → List ℕ → List Certificate → List Name → List Name → Answer
if_step n covers by first second = do
  st ← required 1 (as_if n.left)
  ss ← branch_states n.state st.0 covers by
  tested 6 (no_names first && no_names second)
  Passed (if_children n st.1 st.2 st.3 ss)
