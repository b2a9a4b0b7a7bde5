-- The rules: the children of a node by a step, or the first condition that fails.
use Rattle.std.specs.Prelude.{Option}
use Rattle.vd_terms.specs.Assertions.{Scope}
use Rattle.vd_steps.specs.Script.{Move}
use Rattle.vd_steps.specs.Script as s
use Rattle.vd_rules.specs.CallRules.{call, free, malloc, spawn}
use Rattle.vd_rules.specs.DataRules.{agree, apart, bounds, cut, glue, share, unshare}
use Rattle.vd_rules.specs.FactRules.{absurd_step, forget, have, law_step, name_step, rewrite, split, subst_step}
use Rattle.vd_rules.specs.GoalRules.{block, break, continue, fall, meet, pose, return, while}
use Rattle.vd_rules.specs.LockRules.{acquire, freelock, makelock, release}
use Rattle.vd_rules.specs.Nodes.{Answer, Node, Post}
use Rattle.vd_rules.specs.PredicateRules.{fold, unfold_step}
use Rattle.vd_rules.specs.StatementRules.{if_step, load, set, skip, store}

-- each rule, in the order of the table; `post` is what the body's returns meet
unfoldable pub step_of : Scope → Option Post → Node → Move → Answer
step_of scope post n s.Skip = skip n
step_of scope post n (s.Set covers by) = set n covers by
step_of scope post n (s.Load k covers by) = load n k covers by
step_of scope post n (s.Store k covers by) = store n k covers by
step_of scope post n (s.If covers by first second) = if_step n covers by first second
step_of scope post n (s.While i q names first second) = while scope n i q names first second
step_of scope post n (s.Break ts by) = break n ts by
step_of scope post n (s.Continue ts by) = continue n ts by
step_of scope post n (s.Return ts covers by) = return post n ts covers by
step_of scope post n (s.Fall ts by) = fall post n ts by
step_of scope post n (s.Block k a names first) = block scope n k a names first
step_of scope post n (s.Pose a names first) = pose scope n a names first
step_of scope post n (s.Call ts covers by names) = call scope n ts covers by names
step_of scope post n (s.Malloc v first second) = malloc n v first second
step_of scope post n (s.Free k m by) = free n k m by
step_of scope post n (s.MakeLock k l covers by) = makelock scope n k l covers by
step_of scope post n (s.Acquire k covers) = acquire n k covers
step_of scope post n (s.Release k m covers) = release n k m covers
step_of scope post n (s.FreeLock k m covers by) = freelock n k m covers by
step_of scope post n (s.Spawn ts covers by) = spawn scope n ts covers by
step_of scope post n (s.Fold p k args ts by) = fold scope n p k args ts by
step_of scope post n (s.Unfold k blocks) = unfold_step scope n k blocks
step_of scope post n (s.Split p first second) = split n p first second
step_of scope post n (s.Absurd by) = absurd_step n by
step_of scope post n (s.Have p by) = have n p by
step_of scope post n (s.Law l ts by) = law_step n l ts by
step_of scope post n (s.Subst x) = subst_step post n x
step_of scope post n (s.Rewrite back k o) = rewrite n back k o
step_of scope post n (s.Cut k a b) = cut n k a b
step_of scope post n (s.Glue k m) = glue n k m
step_of scope post n (s.Share k t by) = share n k t by
step_of scope post n (s.Unshare k m by) = unshare n k m by
step_of scope post n (s.Agree k m by) = agree n k m by
step_of scope post n (s.Bounds k m by) = bounds n k m by
step_of scope post n (s.Apart k m by) = apart n k m by
step_of scope post n (s.Forget f) = forget n f
step_of scope post n (s.Meet ts by) = meet n ts by
step_of scope post n (s.Naming x t) = name_step n x t
