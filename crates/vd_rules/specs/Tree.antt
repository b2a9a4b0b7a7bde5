-- The tree of a script: each step makes the children of its node; the first of them go to the step's blocks in order, and one that is left
-- goes on at the steps behind it. With the conditions of rule 0 that speak of the tree: 10, a step is needed where steps end; 11, a step
-- stands where its branch has ended; 12, a state is too large.
use Rattle.std.specs.List.{list_all}
use Rattle.std.specs.Prelude.{Bool, List, None, Option, Some, [], false, suc, true, ℕ, ◌∷◌}
use Rattle.vd_terms.specs.Assertions.{Scope}
use Rattle.vd_steps.specs.Script.{Blocks, Steps, rule_of}
use Rattle.vd_steps.specs.Script as s
use Rattle.vd_rules.specs.Changes.{fits}
use Rattle.vd_rules.specs.Nodes.{Answer, Node, Post}
use Rattle.vd_rules.specs.Rules.{step_of}
use Rattle.vd_rules.specs.declared.checked.Checked.TheVariants.{Passed, Refused}

-- what is left behind steps, or the step at which they are refused, with its rule and condition
pub data Run (A : Type 0) : Type 0 where
  Read : A → Run A
  Stopped : ℕ → ℕ → ℕ → Run A

-- the children of a step, or the rule and the condition that it fails
pub data Made : Type 0 where
  Made_of : List Node → Made
  Failed : ℕ → ℕ → Made

-- each block has a child, and at most one child is left: what a step's own line shows
unfoldable pub fits_blocks : List Node → Blocks → Bool
fits_blocks [] s.NoBlock = true
fits_blocks (n ∷ []) s.NoBlock = true
fits_blocks (n ∷ m ∷ ns) s.NoBlock = false
fits_blocks [] (s.WithBlock steps blocks) = false
fits_blocks (n ∷ ns) (s.WithBlock steps blocks) = fits_blocks ns blocks

abbrev pub all_fit : List Node → Bool
all_fit ns = list_all (λ n. fits n.state) ns

-- shape comes before size
unfoldable pub sized : ℕ → List Node → Bool → Bool → Made
sized r ns false b = Failed r 1
sized r ns true false = Failed 0 12
sized r ns true true = Made_of ns

unfoldable pub made : ℕ → Blocks → Answer → Made
made r blocks (Refused d) = Failed r d
made r blocks (Passed ns) = sized r ns (fits_blocks ns blocks) (all_fit ns)

-- where the steps behind a step go on
abbrev pub first_node : List Node → Option Node
first_node [] = None
first_node (n ∷ ns) = Some n

unfoldable mutual
  -- the number of the last step read, behind the steps of a script or a block from a node on. Without a node the branch has ended. The
  -- number of a step that is missing is one more than the last: it is a number of the definitions, with no bound.
  pub run : Scope → Option Post → Option Node → ℕ → Steps → Run ℕ
  run scope post None last s.End = Read last
  run scope post (Some n) last s.End = Stopped (suc last) 0 10
  run scope post None last (s.Then k m blocks rest) = Stopped k 0 11
  run scope post (Some n) last (s.Then k m blocks rest) = elim (made (rule_of m) blocks (step_of scope post n m)) [
    | Failed r d ↦ Stopped k r d
    | Made_of children ↦ elim (run_blocks scope post children k blocks) [
      | Stopped j r d ↦ Stopped j r d
      | Read left ↦ run scope post (first_node left.0) left.1 rest
    ]
  ]

  -- the children that are left, and the number of the last step read
  pub run_blocks : Scope → Option Post → List Node → ℕ → Blocks → Run (List Node × ℕ)
  run_blocks scope post ns last s.NoBlock = Read (ns, last)
  run_blocks scope post [] last (s.WithBlock steps blocks) = Read ([], last)
  run_blocks scope post (n ∷ ns) last (s.WithBlock steps blocks) = elim (run scope post (Some n) last steps) [
    | Stopped k r d ↦ Stopped k r d
    | Read read ↦ run_blocks scope post ns read blocks
  ]
