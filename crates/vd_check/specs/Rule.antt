-- The number of a step's rule: the rules are numbered from 1, in the order of the steps.
use Rattle.std.specs.Prelude.{ℕ}
use Rattle.vd_logic.specs.declared.step.StepNode.{StepNode}
use Rattle.vd_logic.specs.declared.step.StepNode.TheVariants as step

abbrev pub rule_of : StepNode → ℕ
rule_of step.Skip = 1
rule_of (step.Set a b) = 2
rule_of (step.Load a b c) = 3
rule_of (step.Store a b c) = 4
rule_of (step.If a b c d) = 5
rule_of (step.While a b c d e) = 6
rule_of (step.Break a b) = 7
rule_of (step.Continue a b) = 8
rule_of (step.Return a b c) = 9
rule_of (step.Fall a b) = 10
rule_of (step.Block a b c d) = 11
rule_of (step.Pose a b c) = 12
rule_of (step.Call a b c d) = 13
rule_of (step.Malloc a b c) = 14
rule_of (step.Free a b c) = 15
rule_of (step.MakeLock a b c d) = 16
rule_of (step.Acquire a b) = 17
rule_of (step.Release a b c) = 18
rule_of (step.FreeLock a b c d) = 19
rule_of (step.Spawn a b c) = 20
rule_of (step.Fold a b c d e) = 21
rule_of (step.Split a b c) = 23
rule_of (step.Absurd a) = 24
rule_of (step.Have a b) = 25
rule_of (step.Law a b c) = 26
rule_of (step.Subst a) = 27
rule_of (step.Rewrite a b c) = 28
rule_of (step.Cut a b c) = 29
rule_of (step.Glue a b) = 30
rule_of (step.Share a b c) = 31
rule_of (step.Unshare a b c) = 32
rule_of (step.Agree a b c) = 33
rule_of (step.Bounds a b c) = 34
rule_of (step.Apart a b c) = 35
rule_of (step.Forget a) = 36
rule_of (step.Meet a b) = 37
rule_of (step.Name a b) = 38
-- `unfold`, which has a list of blocks
rule_of _ = 22
