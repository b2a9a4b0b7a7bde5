-- Rules 6 to 12, and 37: loops, blocks and poses, and what ends at their assertions.
use Rattle.std.specs.Prelude.{Bool, List, None, Option, Some, [], cond, false, not, true, ℕ, ◌&&◌, ◌∷◌}
use Rattle.vd_logic.specs.declared.step.Certificate.{Certificate}
use Rattle.vd_terms.specs.Assertions.{Assertion, Scope}
use Rattle.vd_terms.specs.States.{State}
use Rattle.vd_terms.specs.Terms.{Name, Term, Undef}
use Rattle.vd_steps.specs.Code.{Expr, Stmts}
use Rattle.vd_steps.specs.Code as c
use Rattle.vd_rules.specs.Changes.{can_open}
use Rattle.vd_rules.specs.Conditions.{required, tested, ◌>>=◌, ◌>>◌}
use Rattle.vd_rules.specs.Meeting.{meets, meets_goal}
use Rattle.vd_rules.specs.Nodes.{Answer, Goal, Node, Post, at_state, divided, is_end, lifted, next, no_names, towards}
use Rattle.vd_rules.specs.Opening.{Open, opens}
use Rattle.vd_rules.specs.Reading.{locals_known, predicates_declared, read_assertion, terms_of}
use Rattle.vd_rules.specs.Values.{Valued, finished, value, valued}
use Rattle.vd_rules.specs.declared.checked.Checked.{Checked}
use Rattle.vd_rules.specs.declared.checked.Checked.TheVariants.{Passed, Refused}
use Rattle.vd_rules.specs.declared.state.GoalOf.TheVariants.{Block, Loop, Pose}

-- conditions 1, 4 and 7 of an assertion in a step, before and behind condition 6: it is read, its LOCAL names are the function's, and its
-- predicates are declared
unfoldable pub asserted : Scope → State → Assertion → Bool → Checked Open
asserted scope s a opens_new = do
  o ← required 1 (read_assertion scope s a)
  tested 4 (locals_known s a)
  tested 6 opens_new
  tested 7 (predicates_declared scope a)
  Passed o

-- ---- 6 `while A A [as names] block block ;` the first A is the invariant I, the second the break assertion Q; block 1 meets I; block 2
-- opens I at the loop's body; the steps after the `;` open Q at the rest

abbrev pub as_loop : Stmts → Option (Stmts × Stmts)
as_loop (c.Then (c.Loop body) rest) = Some (body, rest)
as_loop xs = None

-- conditions 1 and 4 of both assertions
unfoldable pub both_read : Scope → State → Assertion → Assertion → Checked (Open × Open)
both_read scope s i q = do
  invariant ← required 1 (read_assertion scope s i)
  broken ← required 1 (read_assertion scope s q)
  tested 4 (locals_known s i && locals_known s q)
  Passed (invariant, broken)

-- block 1 opens nothing, block 2 what I opens, and `as` what Q opens
unfoldable pub loop_opens : State → Assertion → Assertion → List Name → List Name → List Name → Bool
loop_opens s i q names first second = no_names first && (can_open s second i.opened && can_open s names q.opened)

-- what meets I, the body, and the rest
unfoldable pub loop_children : Node → Stmts → Stmts → Open × Open → List Name → List Name → List Node
loop_children n body rest o names second =
    towards (Pose o.0) c.End n.state n ∷ towards (Loop o.0 o.1) body (opens n.state o.0 second) n ∷ next rest (opens n.state o.1 names) n ∷ []

unfoldable pub while : Scope → Node → Assertion → Assertion → List Name → List Name → List Name → Answer
while scope n i q names first second = do
  st ← required 1 (as_loop n.left)
  o ← both_read scope n.state i q
  tested 6 (loop_opens n.state i q names first second)
  tested 7 (predicates_declared scope i && predicates_declared scope q)
  Passed (loop_children n st.0 st.1 o names second)

-- ---- 7 `break ( terms ) [by] ;` meets Q

abbrev pub is_break : Stmts → Bool
is_break (c.Then c.Break rest) = true
is_break xs = false

-- the invariant and the break assertion of the innermost loop
abbrev pub loop_goal : List Goal → Option (Open × Open)
loop_goal [] = None
loop_goal (Loop i q ∷ gs) = Some (i, q)
loop_goal (g ∷ gs) = loop_goal gs

unfoldable pub break : Node → List Term → List Certificate → Answer
break n ts by = do
  tested 1 (is_break n.left)
  g ← required 1 (loop_goal n.goals)
  lifted n (meets_goal n.state g.1 ts by)

-- ---- 8 `continue ( terms ) [by] ;` meets I

abbrev pub is_continue : Stmts → Bool
is_continue (c.Then c.Continue rest) = true
is_continue xs = false

unfoldable pub continue : Node → List Term → List Certificate → Answer
continue n ts by = do
  tested 1 (is_continue n.left)
  g ← required 1 (loop_goal n.goals)
  lifted n (meets_goal n.state g.0 ts by)

-- ---- 9 `return ( terms ) [at] [by] ;` meets the post with r the value

abbrev pub as_return : Stmts → Option (Option Expr)
as_return (c.Then (c.Return e) rest) = Some e
as_return xs = None

-- the value of what a `return` has, undef without one
unfoldable pub returned : State → Option Expr → List ℕ → Option (Valued Term)
returned s None covers = Some (valued Undef [] covers)
returned s (Some e) covers = value s e covers

-- a function that returns nothing has no value to return
abbrev pub may_return : Post → Option Expr → Bool
may_return p None = true
may_return p (Some e) = not p.is_void

-- the terms and the value, and the post with them
unfoldable pub return_state : State → Post → Option Expr → List Term → List ℕ → List Certificate → Checked (List State)
return_state s p e ts covers by = do
  tested 1 (may_return p e)
  us ← required 1 (terms_of s p.meaning.inner.opened ts)
  v ← finished (returned s e covers)
  meets s p.meaning (v.value ∷ us) v.owed by

unfoldable pub return : Option Post → Node → List Term → List ℕ → List Certificate → Answer
return post n ts covers by = do
  e ← required 1 (as_return n.left)
  p ← required 1 post
  lifted n (return_state n.state p e ts covers by)

-- ---- 10 `fall ( terms ) [by] ;` at the end of a loop's body meets I, of a `block` its A, of a void function the post

abbrev pub if_void : Post → Option Post
if_void p = cond p.is_void (Some p) None

abbrev pub void_post : Option Post → Option Post
void_post None = None
void_post (Some p) = if_void p

-- the end of a function that returns nothing
unfoldable pub fall_off : Option Post → State → List Term → List Certificate → Checked (List State)
fall_off post s ts by = do
  p ← required 1 (void_post post)
  us ← required 1 (terms_of s p.meaning.inner.opened ts)
  meets s p.meaning (Undef ∷ us) [] by

-- by the innermost goal
unfoldable pub fall_state : Option Post → State → List Goal → List Term → List Certificate → Checked (List State)
fall_state post s [] ts by = fall_off post s ts by
fall_state post s (Loop i q ∷ gs) ts by = meets_goal s i ts by
fall_state post s (Block a ∷ gs) ts by = meets_goal s a ts by
fall_state post s (Pose a ∷ gs) ts by = Refused 1

unfoldable pub fall : Option Post → Node → List Term → List Certificate → Answer
fall post n ts by = do
  tested 1 (is_end n.left)
  lifted n (fall_state post n.state n.goals ts by)

-- ---- 11 `block N A [as names] block ;` the first N statements end at A; the steps after it open A at the rest

-- the first statements, and the rest
unfoldable pub block_children : Node → Stmts × Stmts → Open → List Name → List Node
block_children n parts o names = towards (Block o) parts.0 n.state n ∷ next parts.1 (opens n.state o names) n ∷ []

unfoldable pub block : Scope → Node → ℕ → Assertion → List Name → List Name → Answer
block scope n k a names first = do
  parts ← required 1 (divided k n.left)
  o ← asserted scope n.state a (no_names first && can_open n.state names a.opened)
  Passed (block_children n parts o names)

-- ---- 12 `pose A [as names] block ;` the block meets A; the steps after it open A

-- what meets A, and what goes on from it
unfoldable pub pose_children : Node → Open → List Name → List Node
pose_children n o names = towards (Pose o) c.End n.state n ∷ at_state (opens n.state o names) n ∷ []

unfoldable pub pose : Scope → Node → Assertion → List Name → List Name → Answer
pose scope n a names first = do
  o ← asserted scope n.state a (no_names first && can_open n.state names a.opened)
  Passed (pose_children n o names)

-- ---- 37 `meet ( terms ) [by] ;` meets the goal where no statement is left to run

-- what a pose's block, a loop's first block or an `init` has to meet
abbrev pub pose_goal : List Goal → Option Open
pose_goal (Pose o ∷ gs) = Some o
pose_goal gs = None

unfoldable pub meet : Node → List Term → List Certificate → Answer
meet n ts by = do
  tested 1 (is_end n.left)
  o ← required 1 (pose_goal n.goals)
  lifted n (meets_goal n.state o ts by)
