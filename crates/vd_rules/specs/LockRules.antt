-- Rules 16 to 19: locks.
use Rattle.std.specs.Prelude.{Bool, List, None, Option, Some, [], cond, false, pos, true, ℕ, ◌&&◌, ◌++◌, ◌∷◌}
use Rattle.vd_logic.specs.declared.step.Certificate.{Certificate}
use Rattle.vd_clight.specs.declared.typed.LockOp.{LockOp}
use Rattle.vd_clight.specs.declared.typed.LockOp.TheVariants as lock
use Rattle.vd_terms.specs.Assertions.{Item, Label, Scope}
use Rattle.vd_terms.specs.States.{State}
use Rattle.vd_terms.specs.Terms.{Nil, Number, Of, Of2, Term, Undef}
use Rattle.vd_terms.specs.declared.assertion.ItemOf.TheVariants.{Data, Holds, Lock, Pred}
use Rattle.vd_terms.specs.declared.operation.Binary.TheVariants.{Cons}
use Rattle.vd_terms.specs.declared.operation.Unary.TheVariants.{Len}
use Rattle.vd_steps.specs.Code.{Expr, Stmts}
use Rattle.vd_steps.specs.Code as c
use Rattle.vd_rules.specs.Assertions.{same_label}
use Rattle.vd_rules.specs.Changes.{add_items, drop_item, drop_items}
use Rattle.vd_rules.specs.Conditions.{required, tested, ◌>>=◌, ◌>>◌}
use Rattle.vd_rules.specs.Meeting.{owes_state}
use Rattle.vd_rules.specs.Nodes.{Answer, Node, passed}
use Rattle.vd_rules.specs.Proving.{Owed, are_proved}
use Rattle.vd_rules.specs.Reading.{is_declared, label_of}
use Rattle.vd_rules.specs.Taking.{data_at, differ, holds_at, lock_at, pred_at}
use Rattle.vd_rules.specs.TermOrder.{same}
use Rattle.vd_rules.specs.Values.{Valued, equal, finished, value, whole_share}
use Rattle.vd_rules.specs.declared.checked.Checked.{Checked}
use Rattle.vd_rules.specs.declared.checked.Checked.TheVariants.{Passed}

abbrev pub same_op : LockOp → LockOp → Bool
same_op lock.Make lock.Make = true
same_op lock.Acquire lock.Acquire = true
same_op lock.Release lock.Release = true
same_op lock.Free lock.Free = true
same_op o p = false

-- the address of an operation on a lock
abbrev pub as_lock : LockOp → Stmts → Option (Expr × Stmts)
as_lock o (c.Then (c.OnLock p e) rest) = cond (same_op o p) (Some (e, rest)) None
as_lock o xs = None

-- ---- 16 `makelock N I(terms) [at] [by] ;` data N at the address; owes 64 <= s, len(l) = 1; gives lock(64, p, I), holds(p, I)

-- all of its share, and one cell
unfoldable pub makelock_owes : Term × Term × Term → List Owed → List Owed
makelock_owes d owed = owed ++ (whole_share d.0 ∷ equal (Of Len d.2) (Number (pos 1)) ∷ [])

-- the lock, held
unfoldable pub new_lock : Term → Label → List Item
new_lock p l = Lock (Number (pos 64)) p l ∷ Holds p l ∷ []

-- the data is at the address, and the invariant is in scope
unfoldable pub lock_made : Scope → State → ℕ → Term × Term × Term → Label → Valued Term → List Certificate → Checked (List State)
lock_made scope s k d l v by = do
  tested 1 (same v.value d.1)
  tested 3 (are_proved s.facts by (makelock_owes d v.owed))
  tested 7 (is_declared scope l)
  Passed (add_items (new_lock d.1 l) (drop_item k s) ∷ [])

unfoldable pub makelock_state : Scope → State → Expr → ℕ → Label → List ℕ → List Certificate → Checked (List State)
makelock_state scope s e k label covers by = do
  d ← required 1 (data_at s k)
  l ← required 1 (label_of scope s label)
  v ← finished (value s e covers)
  lock_made scope s k d l v by

unfoldable pub makelock : Scope → Node → ℕ → Label → List ℕ → List Certificate → Answer
makelock scope n k label covers by = do
  st ← required 1 (as_lock lock.Make n.left)
  passed st.1 n (makelock_state scope n.state st.0 k label covers by)

-- ---- 17 `acquire N [at] ;` lock N at the address; adds holds(p, I), I

-- the hold and the invariant
unfoldable pub acquired_items : Term × Term × Label → List Item
acquired_items l = Holds l.1 l.2 ∷ Pred l.2 ∷ []

-- the lock is at the address
unfoldable pub acquired : State → Term × Term × Label → Valued Term → Checked (List State)
acquired s l v = do
  tested 1 (same v.value l.1)
  owes_state s [] v.owed (add_items (acquired_items l) s)

unfoldable pub acquire_state : State → Expr → ℕ → List ℕ → Checked (List State)
acquire_state s e k covers = do
  l ← required 1 (lock_at s k)
  v ← finished (value s e covers)
  acquired s l v

unfoldable pub acquire : Node → ℕ → List ℕ → Answer
acquire n k covers = do
  st ← required 1 (as_lock lock.Acquire n.left)
  passed st.1 n (acquire_state n.state st.0 k covers)

-- ---- 18 `release N M [at] ;` holds N at the address and M equal to its I go

-- the address of the hold, whose invariant the item is
unfoldable pub released_at : State → ℕ → ℕ → Checked Term
released_at s k m = do
  h ← required 1 (holds_at s k)
  i ← required 1 (pred_at s m)
  tested 1 (same_label i h.1)
  Passed h.0

-- the hold is at the address
unfoldable pub released : State → ℕ → ℕ → Term → Valued Term → Checked (List State)
released s k m p v = do
  tested 1 (same v.value p)
  owes_state s [] v.owed (drop_items k m s)

unfoldable pub release_state : State → Expr → ℕ → ℕ → List ℕ → Checked (List State)
release_state s e k m covers = do
  p ← released_at s k m
  v ← finished (value s e covers)
  released s k m p v

unfoldable pub release : Node → ℕ → ℕ → List ℕ → Answer
release n k m covers = do
  st ← required 1 (as_lock lock.Release n.left)
  tested 1 (differ k m)
  passed st.1 n (release_state n.state st.0 k m covers)

-- ---- 19 `freelock N M [at] [by] ;` lock N, owing 64 <= s, and holds M go; gives data(64, p, [undef])

-- a cell of data that has no value
unfoldable pub freed_cell : Term → List Item
freed_cell p = Data (Number (pos 64)) p (Of2 Cons Undef Nil) ∷ []

-- both are at the address
unfoldable pub unlocked : State → ℕ → ℕ → Term × Term × Label → Term × Label → Valued Term → List Certificate → Checked (List State)
unlocked s k m l h v by = do
  tested 1 (same v.value l.1 && same v.value h.0)
  owes_state s by (v.owed ++ whole_share l.0 ∷ []) (add_items (freed_cell l.1) (drop_items k m s))

unfoldable pub freelock_state : State → Expr → ℕ → ℕ → List ℕ → List Certificate → Checked (List State)
freelock_state s e k m covers by = do
  l ← required 1 (lock_at s k)
  h ← required 1 (holds_at s m)
  v ← finished (value s e covers)
  unlocked s k m l h v by

unfoldable pub freelock : Node → ℕ → ℕ → List ℕ → List Certificate → Answer
freelock n k m covers by = do
  st ← required 1 (as_lock lock.Free n.left)
  tested 1 (differ k m)
  passed st.1 n (freelock_state n.state st.0 k m covers by)
