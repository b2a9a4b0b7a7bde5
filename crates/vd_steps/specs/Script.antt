-- Proof scripts: steps with their numbers and their blocks. What is not recursive and has no terms is that of `vd_logic`.
use Rattle.std.specs.Prelude.{◌≡◌, ℕ, suc, Bool, List, length, Option}
use Rattle.vd_logic.specs.declared.step.Certificate.{Certificate}
use Rattle.vd_logic.specs.declared.step.Occurrence.{Occurrence}
use Rattle.vd_logic.specs.declared.step.Forgotten.{Forgotten}
use Rattle.vd_terms.specs.Terms.{Name, Term}
use Rattle.vd_terms.specs.Assertions.{Fact, Assertion, Label}

-- what a step does, without the steps of its blocks: a variant a rule. A list of numbers holds those behind `at`, a list of certificates those
-- behind `by`, a list of names those behind `as` or before a block. Facts and items are numbered from 0.
pub data Move : Type 0 where
  Skip : Move
  Set : List ℕ → List Certificate → Move
  Load : ℕ → List ℕ → List Certificate → Move
  Store : ℕ → List ℕ → List Certificate → Move
  If : List ℕ → List Certificate → List Name → List Name → Move
  -- the invariant, the break assertion, the names of `as`, of the first and of the second block
  While : Assertion → Assertion → List Name → List Name → List Name → Move
  Break : List Term → List Certificate → Move
  Continue : List Term → List Certificate → Move
  Return : List Term → List ℕ → List Certificate → Move
  Fall : List Term → List Certificate → Move
  -- the names of `as`, and of the block
  Block : ℕ → Assertion → List Name → List Name → Move
  Pose : Assertion → List Name → List Name → Move
  Call : List Term → List ℕ → List Certificate → List Name → Move
  -- the pointer's name, and the names of the blocks
  Malloc : Name → List Name → List Name → Move
  Free : ℕ → ℕ → List Certificate → Move
  MakeLock : ℕ → Label → List ℕ → List Certificate → Move
  Acquire : ℕ → List ℕ → Move
  Release : ℕ → ℕ → List ℕ → Move
  FreeLock : ℕ → ℕ → List ℕ → List Certificate → Move
  Spawn : List Term → List ℕ → List Certificate → Move
  -- the predicate, its case, its arguments, and the terms for what the case opens
  Fold : Name → ℕ → List Term → List Term → List Certificate → Move
  -- the names of each block
  Unfold : ℕ → List (List Name) → Move
  Split : Fact → List Name → List Name → Move
  Absurd : List Certificate → Move
  Have : Fact → List Certificate → Move
  Law : Name → List Term → List Certificate → Move
  Subst : Name → Move
  -- whether `back`
  Rewrite : Bool → ℕ → Occurrence → Move
  Cut : ℕ → Term → Term → Move
  Glue : ℕ → ℕ → Move
  Share : ℕ → Term → List Certificate → Move
  Unshare : ℕ → ℕ → List Certificate → Move
  Agree : ℕ → ℕ → List Certificate → Move
  Bounds : ℕ → Option ℕ → List Certificate → Move
  Apart : ℕ → ℕ → List Certificate → Move
  Forget : Forgotten → Move
  Meet : List Term → List Certificate → Move
  Naming : Name → Term → Move

mutual
  -- a step has its number in reading order, and the steps of its blocks
  pub data Steps : Type 0 where
    End : Steps
    Then : ℕ → Move → Blocks → Steps → Steps

  pub data Blocks : Type 0 where
    NoBlock : Blocks
    WithBlock : Steps → Blocks → Blocks

-- the number of a step's rule
abbrev pub rule_of : Move → ℕ
rule_of Skip = 1
rule_of (Set covers by) = 2
rule_of (Load n covers by) = 3
rule_of (Store n covers by) = 4
rule_of (If covers by ns ms) = 5
rule_of (While i q ns bs cs) = 6
rule_of (Break ts by) = 7
rule_of (Continue ts by) = 8
rule_of (Return ts covers by) = 9
rule_of (Fall ts by) = 10
rule_of (Block n a ns bs) = 11
rule_of (Pose a ns bs) = 12
rule_of (Call ts covers by ns) = 13
rule_of (Malloc v ns ms) = 14
rule_of (Free n m by) = 15
rule_of (MakeLock n l covers by) = 16
rule_of (Acquire n covers) = 17
rule_of (Release n m covers) = 18
rule_of (FreeLock n m covers by) = 19
rule_of (Spawn ts covers by) = 20
rule_of (Fold p k args ts by) = 21
rule_of (Unfold n bs) = 22
rule_of (Split p ns ms) = 23
rule_of (Absurd by) = 24
rule_of (Have p by) = 25
rule_of (Law l ts by) = 26
rule_of (Subst x) = 27
rule_of (Rewrite b k o) = 28
rule_of (Cut n a b) = 29
rule_of (Glue n m) = 30
rule_of (Share n t by) = 31
rule_of (Unshare n m by) = 32
rule_of (Agree n m by) = 33
rule_of (Bounds n m by) = 34
rule_of (Apart n m by) = 35
rule_of (Forget f) = 36
rule_of (Meet ts by) = 37
rule_of (Naming x t) = 38

-- ---- blocks

-- how many blocks the line of a step shows
abbrev pub block_count : Move → ℕ
block_count (If covers by ns ms) = 2
block_count (While i q ns bs cs) = 2
block_count (Block n a ns bs) = 1
block_count (Pose a ns bs) = 1
block_count (Malloc v ns ms) = 2
block_count (Unfold n bs) = length bs
block_count (Split p ns ms) = 2
block_count m = 0

abbrev pub count_blocks : Blocks → ℕ
count_blocks NoBlock = 0
count_blocks (WithBlock b bs) = suc (count_blocks bs)

-- each step of a script, and of its blocks, has the blocks that its line shows
abbrev mutual
  pub IsComplete : Steps → Type 0
  IsComplete End = Unit {0}
  IsComplete (Then n m bs rest) = (count_blocks bs ≡ block_count m) × (AreComplete bs × IsComplete rest)

  pub AreComplete : Blocks → Type 0
  AreComplete NoBlock = Unit {0}
  AreComplete (WithBlock b bs) = IsComplete b × AreComplete bs
