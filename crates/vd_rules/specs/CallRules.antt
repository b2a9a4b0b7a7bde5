-- Rules 13 to 15, and 20: calls, memory, threads.
use Rattle.std.specs.List.{list_all}
use Rattle.std.specs.Prelude.{Bool, List, None, Option, Some, [], cond, false, is_some, length, map, nat_eq, not, pos, true, ℕ, ◌&&◌, ◌++◌, ◌∷◌}
use Rattle.vd_logic.specs.declared.step.Certificate.{Certificate}
use Rattle.vd_logic.specs.declared.term.Sort.{Sort}
use Rattle.vd_logic.specs.declared.term.Sort.TheVariants as sort
use Rattle.vd_terms.specs.Assertions.{Assertion, Item, Scope, Spec, spec_named}
use Rattle.vd_terms.specs.States.{State, count, sorts_of}
use Rattle.vd_terms.specs.Terms.{Name, Number, Of, Of2, Term, Undef, Var}
use Rattle.vd_terms.specs.declared.assertion.FactOf.TheVariants.{IsPtr}
use Rattle.vd_terms.specs.declared.assertion.ItemOf.TheVariants.{Data, Token}
use Rattle.vd_terms.specs.declared.operation.Binary.TheVariants.{Rep}
use Rattle.vd_terms.specs.declared.operation.Unary.TheVariants.{Len}
use Rattle.vd_steps.specs.Code.{Expr, Stmts}
use Rattle.vd_steps.specs.Code as c
use Rattle.vd_rules.specs.Assertions.{have_sorts}
use Rattle.vd_rules.specs.Changes.{add_facts, add_items, add_variables, can_open, drop_items, fresh, set_local, with_items}
use Rattle.vd_rules.specs.Conditions.{required, tested, ◌>>=◌, ◌>>◌}
use Rattle.vd_rules.specs.Meeting.{owes_state}
use Rattle.vd_rules.specs.Nodes.{Answer, Node, next, no_names, passed}
use Rattle.vd_rules.specs.Opening.{has_value, with_terms}
use Rattle.vd_rules.specs.Proving.{Owed, are_proved, proved}
use Rattle.vd_rules.specs.Reading.{resolved, sorted_terms}
use Rattle.vd_rules.specs.Taking.{data_at, differ, taken, token_at}
use Rattle.vd_rules.specs.TermOrder.{same}
use Rattle.vd_rules.specs.Values.{Valued, equal, finished, owing, value, valued, values, whole_share, zero_value}
use Rattle.vd_rules.specs.declared.checked.Checked.{Checked}
use Rattle.vd_rules.specs.declared.checked.Checked.TheVariants.{Passed, Refused}

-- ---- what a call and a spawn have in common

abbrev pub no_sorts : List Sort → Bool
no_sorts [] = true
no_sorts (s ∷ ss) = false

-- an assertion without variables of its own
abbrev pub opens_none : Assertion → Bool
opens_none a = no_sorts a.opened

-- the terms are as many and of the sorts of the specification's variables, which are all that its precondition has, and the arguments are
-- as many as its parameters
unfoldable pub fits_spec : Spec → State → List Term → ℕ → Bool
fits_spec spec s ts n = have_sorts (sorts_of spec.vars) (map (resolved s) ts) && (nat_eq (length spec.params) n && opens_none spec.pre)

-- the specification; where there is none, what the arguments owe is tested before
unfoldable pub specified : Option Spec → State → List Owed → List Certificate → Checked Spec
specified (Some spec) s owed by = Passed spec
specified None s owed by = do
  tested 3 (is_some (proved s.facts owed by))
  Refused 7

-- each parameter with its argument
unfoldable pub arguments : List Name → List Term → List (Name × Option Term)
arguments [] vs = []
arguments (p ∷ ps) [] = []
arguments (p ∷ ps) (v ∷ vs) = (p, Some v) ∷ arguments ps vs

-- the precondition is given up: PROP owed behind the arguments, LOCAL equal to the arguments, each SEP item found and removed
unfoldable pub given_up : State → List Name → Assertion → Valued (List Term) → List Certificate → Checked (List Item)
given_up s params a v by = do
  tested 3 (are_proved s.facts by (v.owed ++ owing a.facts))
  tested 4 (list_all (has_value (arguments params v.value)) a.locals)
  required 5 (taken a.items s.items)

-- ---- 13 `call ( terms ) [at] [by] [as names] ;` pre with the terms: PROP owed, LOCAL equal to arguments, each SEP item found and removed;
-- then the post, names first for r

abbrev pub as_call : Stmts → Option (Option ℕ × Name × List Expr × Stmts)
as_call (c.Then (c.Call x f args) rest) = Some (x, f, args, rest)
as_call xs = None

-- a result that is kept is one that the function has
abbrev pub may_keep : Option ℕ → Spec → Bool
may_keep None spec = true
may_keep (Some x) spec = not spec.is_void

abbrev pub fits_call : Option Spec → State → Option ℕ → List Term → ℕ → Bool
fits_call None s x ts n = true
fits_call (Some spec) s x ts n = fits_spec spec s ts n && may_keep x spec

-- what a call opens: the result, where there is one, and the post's variables
unfoldable pub opened_sorts : Spec → List Sort
opened_sorts spec = cond spec.is_void spec.post.opened (sort.Val ∷ spec.post.opened)

-- the post's terms behind those of the specification's variables: without a result it is undef
abbrev pub with_result : Spec → List Term → List Term
with_result spec vs = cond spec.is_void (Undef ∷ vs) vs

abbrev pub result_of : Spec → List Term → Term
result_of spec [] = Undef
result_of spec (v ∷ vs) = cond spec.is_void Undef v

-- the temporary that keeps the result
unfoldable pub set_target : Option ℕ → Term → State → State
set_target None t s = s
set_target (Some x) t s = set_local x (Some t) s

-- the state with the post's facts and items
unfoldable pub with_post : Assertion → State → State
with_post a s = add_items a.items (add_facts a.facts s)

-- under the variables that the call opens
unfoldable pub after_call : Spec → List Term → Option ℕ → List Name → List Term → State → State
after_call spec us x names vs s =
    set_target x (result_of spec vs) (with_post (with_terms spec.post (us ++ with_result spec vs)) (add_variables names (opened_sorts spec) s))

-- with the specification, its terms and the arguments
unfoldable pub call_with : State → Spec → List Term → Option ℕ → Valued (List Term) → List Certificate → List Name → Checked (List State)
call_with s spec us x v by names = do
  left ← given_up s spec.params (with_terms spec.pre us) v by
  tested 6 (can_open s names (opened_sorts spec))
  Passed (after_call spec us x names (fresh s (opened_sorts spec)) (with_items left s) ∷ [])

-- the terms, the arguments, the specification
unfoldable pub call_state : State → Option Spec → Option ℕ → List Expr → List Term → List ℕ → List Certificate → List Name
    → Checked (List State)
call_state s f x es ts covers by names = do
  us ← required 1 (sorted_terms s ts)
  tested 1 (fits_call f s x ts (length es))
  v ← finished (values s es covers)
  spec ← specified f s v.owed by
  call_with s spec us x v by names

unfoldable pub call : Scope → Node → List Term → List ℕ → List Certificate → List Name → Answer
call scope n ts covers by names = do
  st ← required 1 (as_call n.left)
  passed st.3 n (call_state n.state (spec_named scope st.1) st.0 st.2 ts covers by names)

-- ---- 14 `malloc v block block ;` child 1: temporary vi(0); child 2: opens v, isptr(v), data(64, v, rep(undef, n)), token(v, n)

abbrev pub as_malloc : Stmts → Option (ℕ × ℕ × Stmts)
as_malloc (c.Then (c.Malloc x n) rest) = Some (x, n, rest)
as_malloc xs = None

-- the cells of a new block, all of its share, and the right to free it
unfoldable pub block_items : Term → Term → List Item
block_items v cells = Data (Number (pos 64)) v (Of2 Rep Undef cells) ∷ Token v cells ∷ []

-- the state with a new block at the variable v
unfoldable pub with_block : Name → ℕ → Term → Term → State → State
with_block name x cells v s =
    set_local x (Some v) (add_items (block_items v cells) (add_facts (IsPtr v ∷ []) (add_variables (name ∷ []) (sort.Val ∷ []) s)))

-- without memory, and with it
unfoldable pub malloc_children : Node → ℕ → ℕ → Stmts → Name → List Node
malloc_children n x cells rest name =
    next rest (set_local x (Some zero_value) n.state) n
    ∷ next rest (with_block name x (Number (pos cells)) (Var (count n.state) sort.Val) n.state) n ∷ []

unfoldable pub malloc : Node → Name → List Name → List Name → Answer
malloc n name first second = do
  st ← required 1 (as_malloc n.left)
  tested 6 (can_open n.state (name ∷ []) (sort.Val ∷ []) && (no_names first && no_names second))
  Passed (malloc_children n st.0 st.1 st.2 name)

-- ---- 15 `free N M [by] ;` data N and token M at the address; owes 64 <= s, len(l) = n; both go

abbrev pub as_free : Stmts → Option (Expr × Stmts)
as_free (c.Then (c.Free e) rest) = Some (e, rest)
as_free xs = None

-- all of its share, and as many cells as the block has
unfoldable pub free_owes : Term × Term × Term → Term × Term → List Owed → List Owed
free_owes d t owed = owed ++ (whole_share d.0 ∷ equal (Of Len d.2) t.1 ∷ [])

-- both items are at the address
unfoldable pub freed : State → ℕ → ℕ → Term × Term × Term → Term × Term → Valued Term → List Certificate → Checked (List State)
freed s k m d t v by = do
  tested 1 (same v.value d.1 && same v.value t.0)
  owes_state s by (free_owes d t v.owed) (drop_items k m s)

-- the items N and M, and the address
unfoldable pub free_state : State → Expr → ℕ → ℕ → List Certificate → Checked (List State)
free_state s e k m by = do
  d ← required 1 (data_at s k)
  t ← required 1 (token_at s m)
  v ← finished (value s e [])
  freed s k m d t v by

unfoldable pub free : Node → ℕ → ℕ → List Certificate → Answer
free n k m by = do
  st ← required 1 (as_free n.left)
  tested 1 (differ k m)
  passed st.1 n (free_state n.state st.0 k m by)

-- ---- 20 `spawn ( terms ) [at] [by] ;` as 13 without the post; the function has one parameter and is void

abbrev pub as_spawn : Stmts → Option (Name × Expr × Stmts)
as_spawn (c.Then (c.Spawn f e) rest) = Some (f, e, rest)
as_spawn xs = None

-- a thread runs a function that returns nothing, with one parameter
unfoldable pub fits_spawn : Option Spec → State → List Term → Bool
fits_spawn None s ts = true
fits_spawn (Some spec) s ts = spec.is_void && fits_spec spec s ts 1

-- with the specification, its terms and the argument
unfoldable pub spawn_with : State → Spec → List Term → Valued Term → List Certificate → Checked (List State)
spawn_with s spec us v by = do
  left ← given_up s spec.params (with_terms spec.pre us) (valued (v.value ∷ []) v.owed v.covers) by
  Passed (with_items left s ∷ [])

-- the terms, the argument, the specification
unfoldable pub spawn_state : State → Option Spec → Expr → List Term → List ℕ → List Certificate → Checked (List State)
spawn_state s f e ts covers by = do
  us ← required 1 (sorted_terms s ts)
  tested 1 (fits_spawn f s ts)
  v ← finished (value s e covers)
  spec ← specified f s v.owed by
  spawn_with s spec us v by

unfoldable pub spawn : Scope → Node → List Term → List ℕ → List Certificate → Answer
spawn scope n ts covers by = do
  st ← required 1 (as_spawn n.left)
  passed st.2 n (spawn_state n.state (spec_named scope st.0) st.1 ts covers by)
