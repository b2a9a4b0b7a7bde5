-- The number of the rule of each kind of step.
use Rattle.std.specs.Prelude.{◌≡◌, ℕ, Bool, List, Option}
use Rattle.std.proofs.Common.{ap}
use Rattle.vd_base.specs.declared.name.Name.{Name}
use Rattle.vd_logic.specs.declared.term.Term.{Term}
use Rattle.vd_logic.specs.declared.assertion.Prop.{Prop}
use Rattle.vd_logic.specs.declared.assertion.Label.{Label}
use Rattle.vd_logic.specs.declared.assertion.Assertion.{Assertion}
use Rattle.vd_logic.specs.declared.step.Certificate.{Certificate}
use Rattle.vd_logic.specs.declared.step.Occurrence.{Occurrence}
use Rattle.vd_logic.specs.declared.step.Forgotten.{Forgotten}
use Rattle.vd_logic.specs.declared.step.Block.{Block}
use Rattle.vd_logic.specs.declared.step.Step.{Step, fold_out-Step}
use Rattle.vd_logic.specs.declared.step.StepNode.{StepNode, fold_out-StepNode}
use Rattle.vd_logic.specs.declared.step.StepNode as node
use Rattle.vd_logic.specs.declared.step.StepNode.TheViews as views
use Rattle.vd_steps.specs.Script.{rule_of}
use Rattle.vd_steps.specs.PlainScript.{Unnumbered, plain_node, plain_step}
use Rattle.vd_rules.specs.StepNumbers.{node_number, step_number}

pub number-Skip : node_number node.Skip ≡ 1
unfolding node_number plain_node
number-Skip = rw (fold_out-StepNode _ _ _ _ _ _ node.Skip, views.outs-Skip)

pub number-Set : (a : List ℕ) (b : List Certificate) → node_number (node.Set a b) ≡ 2
unfolding node_number plain_node
number-Set a b = rw (fold_out-StepNode _ _ _ _ _ _ (node.Set a b), views.outs-Set a b)

pub number-Load : (a : ℕ) (b : List ℕ) (c : List Certificate) → node_number (node.Load a b c) ≡ 3
unfolding node_number plain_node
number-Load a b c = rw (fold_out-StepNode _ _ _ _ _ _ (node.Load a b c), views.outs-Load a b c)

pub number-Store : (a : ℕ) (b : List ℕ) (c : List Certificate) → node_number (node.Store a b c) ≡ 4
unfolding node_number plain_node
number-Store a b c = rw (fold_out-StepNode _ _ _ _ _ _ (node.Store a b c), views.outs-Store a b c)

pub number-If : (a : List ℕ) (b : List Certificate) (c : Block) (d : Block) → node_number (node.If a b c d) ≡ 5
unfolding node_number plain_node
number-If a b c d = rw (fold_out-StepNode _ _ _ _ _ _ (node.If a b c d), views.outs-If a b c d)

pub number-While : (a : Assertion) (b : Assertion) (c : List Name) (d : Block) (e : Block) → node_number (node.While a b c d e) ≡ 6
unfolding node_number plain_node
number-While a b c d e = rw (fold_out-StepNode _ _ _ _ _ _ (node.While a b c d e), views.outs-While a b c d e)

pub number-Break : (a : List Term) (b : List Certificate) → node_number (node.Break a b) ≡ 7
unfolding node_number plain_node
number-Break a b = rw (fold_out-StepNode _ _ _ _ _ _ (node.Break a b), views.outs-Break a b)

pub number-Continue : (a : List Term) (b : List Certificate) → node_number (node.Continue a b) ≡ 8
unfolding node_number plain_node
number-Continue a b = rw (fold_out-StepNode _ _ _ _ _ _ (node.Continue a b), views.outs-Continue a b)

pub number-Return : (a : List Term) (b : List ℕ) (c : List Certificate) → node_number (node.Return a b c) ≡ 9
unfolding node_number plain_node
number-Return a b c = rw (fold_out-StepNode _ _ _ _ _ _ (node.Return a b c), views.outs-Return a b c)

pub number-Fall : (a : List Term) (b : List Certificate) → node_number (node.Fall a b) ≡ 10
unfolding node_number plain_node
number-Fall a b = rw (fold_out-StepNode _ _ _ _ _ _ (node.Fall a b), views.outs-Fall a b)

pub number-Block : (a : ℕ) (b : Assertion) (c : List Name) (d : Block) → node_number (node.Block a b c d) ≡ 11
unfolding node_number plain_node
number-Block a b c d = rw (fold_out-StepNode _ _ _ _ _ _ (node.Block a b c d), views.outs-Block a b c d)

pub number-Pose : (a : Assertion) (b : List Name) (c : Block) → node_number (node.Pose a b c) ≡ 12
unfolding node_number plain_node
number-Pose a b c = rw (fold_out-StepNode _ _ _ _ _ _ (node.Pose a b c), views.outs-Pose a b c)

pub number-Call : (a : List Term) (b : List ℕ) (c : List Certificate) (d : List Name) → node_number (node.Call a b c d) ≡ 13
unfolding node_number plain_node
number-Call a b c d = rw (fold_out-StepNode _ _ _ _ _ _ (node.Call a b c d), views.outs-Call a b c d)

pub number-Malloc : (a : Name) (b : Block) (c : Block) → node_number (node.Malloc a b c) ≡ 14
unfolding node_number plain_node
number-Malloc a b c = rw (fold_out-StepNode _ _ _ _ _ _ (node.Malloc a b c), views.outs-Malloc a b c)

pub number-Free : (a : ℕ) (b : ℕ) (c : List Certificate) → node_number (node.Free a b c) ≡ 15
unfolding node_number plain_node
number-Free a b c = rw (fold_out-StepNode _ _ _ _ _ _ (node.Free a b c), views.outs-Free a b c)

pub number-MakeLock : (a : ℕ) (b : Label) (c : List ℕ) (d : List Certificate) → node_number (node.MakeLock a b c d) ≡ 16
unfolding node_number plain_node
number-MakeLock a b c d = rw (fold_out-StepNode _ _ _ _ _ _ (node.MakeLock a b c d), views.outs-MakeLock a b c d)

pub number-Acquire : (a : ℕ) (b : List ℕ) → node_number (node.Acquire a b) ≡ 17
unfolding node_number plain_node
number-Acquire a b = rw (fold_out-StepNode _ _ _ _ _ _ (node.Acquire a b), views.outs-Acquire a b)

pub number-Release : (a : ℕ) (b : ℕ) (c : List ℕ) → node_number (node.Release a b c) ≡ 18
unfolding node_number plain_node
number-Release a b c = rw (fold_out-StepNode _ _ _ _ _ _ (node.Release a b c), views.outs-Release a b c)

pub number-FreeLock : (a : ℕ) (b : ℕ) (c : List ℕ) (d : List Certificate) → node_number (node.FreeLock a b c d) ≡ 19
unfolding node_number plain_node
number-FreeLock a b c d = rw (fold_out-StepNode _ _ _ _ _ _ (node.FreeLock a b c d), views.outs-FreeLock a b c d)

pub number-Spawn : (a : List Term) (b : List ℕ) (c : List Certificate) → node_number (node.Spawn a b c) ≡ 20
unfolding node_number plain_node
number-Spawn a b c = rw (fold_out-StepNode _ _ _ _ _ _ (node.Spawn a b c), views.outs-Spawn a b c)

pub number-Fold : (a : Name) (b : ℕ) (c : List Term) (d : List Term) (e : List Certificate) → node_number (node.Fold a b c d e) ≡ 21
unfolding node_number plain_node
number-Fold a b c d e = rw (fold_out-StepNode _ _ _ _ _ _ (node.Fold a b c d e), views.outs-Fold a b c d e)

pub number-Unfold : (a : ℕ) (b : List Block) → node_number (node.Unfold a b) ≡ 22
unfolding node_number plain_node
number-Unfold a b = rw (fold_out-StepNode _ _ _ _ _ _ (node.Unfold a b), views.outs-Unfold a b)

pub number-Split : (a : Prop) (b : Block) (c : Block) → node_number (node.Split a b c) ≡ 23
unfolding node_number plain_node
number-Split a b c = rw (fold_out-StepNode _ _ _ _ _ _ (node.Split a b c), views.outs-Split a b c)

pub number-Absurd : (a : List Certificate) → node_number (node.Absurd a) ≡ 24
unfolding node_number plain_node
number-Absurd a = rw (fold_out-StepNode _ _ _ _ _ _ (node.Absurd a), views.outs-Absurd a)

pub number-Have : (a : Prop) (b : List Certificate) → node_number (node.Have a b) ≡ 25
unfolding node_number plain_node
number-Have a b = rw (fold_out-StepNode _ _ _ _ _ _ (node.Have a b), views.outs-Have a b)

pub number-Law : (a : Name) (b : List Term) (c : List Certificate) → node_number (node.Law a b c) ≡ 26
unfolding node_number plain_node
number-Law a b c = rw (fold_out-StepNode _ _ _ _ _ _ (node.Law a b c), views.outs-Law a b c)

pub number-Subst : (a : Name) → node_number (node.Subst a) ≡ 27
unfolding node_number plain_node
number-Subst a = rw (fold_out-StepNode _ _ _ _ _ _ (node.Subst a), views.outs-Subst a)

pub number-Rewrite : (a : Bool) (b : ℕ) (c : Occurrence) → node_number (node.Rewrite a b c) ≡ 28
unfolding node_number plain_node
number-Rewrite a b c = rw (fold_out-StepNode _ _ _ _ _ _ (node.Rewrite a b c), views.outs-Rewrite a b c)

pub number-Cut : (a : ℕ) (b : Term) (c : Term) → node_number (node.Cut a b c) ≡ 29
unfolding node_number plain_node
number-Cut a b c = rw (fold_out-StepNode _ _ _ _ _ _ (node.Cut a b c), views.outs-Cut a b c)

pub number-Glue : (a : ℕ) (b : ℕ) → node_number (node.Glue a b) ≡ 30
unfolding node_number plain_node
number-Glue a b = rw (fold_out-StepNode _ _ _ _ _ _ (node.Glue a b), views.outs-Glue a b)

pub number-Share : (a : ℕ) (b : Term) (c : List Certificate) → node_number (node.Share a b c) ≡ 31
unfolding node_number plain_node
number-Share a b c = rw (fold_out-StepNode _ _ _ _ _ _ (node.Share a b c), views.outs-Share a b c)

pub number-Unshare : (a : ℕ) (b : ℕ) (c : List Certificate) → node_number (node.Unshare a b c) ≡ 32
unfolding node_number plain_node
number-Unshare a b c = rw (fold_out-StepNode _ _ _ _ _ _ (node.Unshare a b c), views.outs-Unshare a b c)

pub number-Agree : (a : ℕ) (b : ℕ) (c : List Certificate) → node_number (node.Agree a b c) ≡ 33
unfolding node_number plain_node
number-Agree a b c = rw (fold_out-StepNode _ _ _ _ _ _ (node.Agree a b c), views.outs-Agree a b c)

pub number-Bounds : (a : ℕ) (b : Option ℕ) (c : List Certificate) → node_number (node.Bounds a b c) ≡ 34
unfolding node_number plain_node
number-Bounds a b c = rw (fold_out-StepNode _ _ _ _ _ _ (node.Bounds a b c), views.outs-Bounds a b c)

pub number-Apart : (a : ℕ) (b : ℕ) (c : List Certificate) → node_number (node.Apart a b c) ≡ 35
unfolding node_number plain_node
number-Apart a b c = rw (fold_out-StepNode _ _ _ _ _ _ (node.Apart a b c), views.outs-Apart a b c)

pub number-Forget : (a : Forgotten) → node_number (node.Forget a) ≡ 36
unfolding node_number plain_node
number-Forget a = rw (fold_out-StepNode _ _ _ _ _ _ (node.Forget a), views.outs-Forget a)

pub number-Meet : (a : List Term) (b : List Certificate) → node_number (node.Meet a b) ≡ 37
unfolding node_number plain_node
number-Meet a b = rw (fold_out-StepNode _ _ _ _ _ _ (node.Meet a b), views.outs-Meet a b)

pub number-Name : (a : Name) (b : Term) → node_number (node.Name a b) ≡ 38
unfolding node_number plain_node
number-Name a b = rw (fold_out-StepNode _ _ _ _ _ _ (node.Name a b), views.outs-Name a b)

pub ruleset numbers = (number-Skip, number-Set, number-Load, number-Store, number-If, number-While, number-Break, number-Continue, number-Return, number-Fall, number-Block, number-Pose, number-Call, number-Malloc, number-Free, number-MakeLock, number-Acquire, number-Release, number-FreeLock, number-Spawn, number-Fold, number-Unfold, number-Split, number-Absurd, number-Have, number-Law, number-Subst, number-Rewrite, number-Cut, number-Glue, number-Share, number-Unshare, number-Agree, number-Bounds, number-Apart, number-Forget, number-Meet, number-Name)

pub step_number_is : (x : Step) → step_number x ≡ node_number x.node
unfolding plain_step plain_node step_number node_number
step_number_is x = ap (λ (y : ℕ × Unnumbered). rule_of y.1.0) (fold_out-Step _ _ _ _ _ _ x)
