-- The measure of the numbering: a node, a block or a step weighs more than its parts together.
use Rattle.std.proofs.Common.{ℕ, suc, ◌+◌, ◌≡◌, List, [], ◌∷◌, map, ap, ◌∙◌}
use Rattle.vd_logic.specs.declared.assertion.Assertion.{Assertion}
use Rattle.vd_logic.specs.declared.assertion.Prop.{Prop}
use Rattle.vd_logic.specs.declared.step.Certificate.{Certificate}
use Rattle.vd_logic.specs.declared.step.Block.{Block, Block-F, out-Block, fold-Block, fold_out-Block}
use Rattle.vd_logic.specs.declared.step.Step.{Step, Step-F, out-Step, fold-Step, fold_out-Step}
use Rattle.vd_logic.specs.declared.step.StepNode.{StepNode, StepNode-F, out-StepNode, fold-StepNode, fold_out-StepNode, map-StepNode}
use Rattle.vd_logic.specs.declared.step.StepNode.TheOpen as open_
use Rattle.vd_logic.specs.declared.step.StepNode.TheVariants as s
use Rattle.vd_logic.specs.declared.step.StepNode.TheVariants.{outs-If, outs-While, outs-Block, outs-Pose, outs-Malloc, outs-Unfold, outs-Split}

abbrev pub total : List ℕ → ℕ
total [] = 0
total (n ∷ ns) = n + total ns

-- of a list, one more than of its items together
abbrev pub together : List ℕ → ℕ
together ns = suc (total ns)

abbrev node_layer : StepNode-F ℕ ℕ ℕ → ℕ
node_layer (open_.If xs cs a b) = suc (a + b)
node_layer (open_.While inv q xs a b) = suc (a + b)
node_layer (open_.Block k q xs a) = suc a
node_layer (open_.Pose q xs a) = suc a
node_layer (open_.Malloc x a b) = suc (a + b)
node_layer (open_.Unfold k bs) = suc (together bs)
node_layer (open_.Split p a b) = suc (a + b)
node_layer _ = 1

abbrev block_layer : Block-F ℕ ℕ ℕ → ℕ
block_layer b = suc (together b.steps)

abbrev step_layer : Step-F ℕ ℕ ℕ → ℕ
step_layer x = suc x.node

unfoldable pub of_node : StepNode → ℕ
of_node = fold-StepNode ℕ ℕ ℕ node_layer block_layer step_layer

unfoldable pub of_block : Block → ℕ
of_block = fold-Block ℕ ℕ ℕ node_layer block_layer step_layer

unfoldable pub of_step : Step → ℕ
of_step = fold-Step ℕ ℕ ℕ node_layer block_layer step_layer

abbrev pub of_steps : List Step → ℕ
of_steps xs = together (map of_step xs)

abbrev pub of_blocks : List Block → ℕ
of_blocks bs = together (map of_block bs)

by_layer : (x : StepNode) (l : StepNode-F StepNode Block Step) → out-StepNode x ≡ l → of_node x ≡ node_layer (map-StepNode StepNode Block Step ℕ ℕ ℕ of_node of_block of_step l)
unfolding of_node of_block of_step
by_layer x l h = fold_out-StepNode ℕ ℕ ℕ node_layer block_layer step_layer x ∙ ap (λ l. node_layer (map-StepNode StepNode Block Step ℕ ℕ ℕ of_node of_block of_step l)) h

pub weight-If : (xs : List ℕ) (cs : List Certificate) (a b : Block) → of_node (s.If xs cs a b) ≡ suc (of_block a + of_block b)
weight-If xs cs a b = by_layer (s.If xs cs a b) (open_.If xs cs a b) (outs-If xs cs a b)

pub weight-While : (inv q : Assertion) (xs : List (List ℕ)) (a b : Block) → of_node (s.While inv q xs a b) ≡ suc (of_block a + of_block b)
weight-While inv q xs a b = by_layer (s.While inv q xs a b) (open_.While inv q xs a b) (outs-While inv q xs a b)

pub weight-Block : (k : ℕ) (q : Assertion) (xs : List (List ℕ)) (a : Block) → of_node (s.Block k q xs a) ≡ suc (of_block a)
weight-Block k q xs a = by_layer (s.Block k q xs a) (open_.Block k q xs a) (outs-Block k q xs a)

pub weight-Pose : (q : Assertion) (xs : List (List ℕ)) (a : Block) → of_node (s.Pose q xs a) ≡ suc (of_block a)
weight-Pose q xs a = by_layer (s.Pose q xs a) (open_.Pose q xs a) (outs-Pose q xs a)

pub weight-Malloc : (x : List ℕ) (a b : Block) → of_node (s.Malloc x a b) ≡ suc (of_block a + of_block b)
weight-Malloc x a b = by_layer (s.Malloc x a b) (open_.Malloc x a b) (outs-Malloc x a b)

pub weight-Unfold : (k : ℕ) (bs : List Block) → of_node (s.Unfold k bs) ≡ suc (of_blocks bs)
weight-Unfold k bs = by_layer (s.Unfold k bs) (open_.Unfold k bs) (outs-Unfold k bs)

pub weight-Split : (p : Prop) (a b : Block) → of_node (s.Split p a b) ≡ suc (of_block a + of_block b)
weight-Split p a b = by_layer (s.Split p a b) (open_.Split p a b) (outs-Split p a b)

pub weight-Step : (x : Step) → of_step x ≡ suc (of_node (out-Step x).node)
unfolding of_node of_block of_step
weight-Step x = fold_out-Step ℕ ℕ ℕ node_layer block_layer step_layer x

pub weight-inside : (b : Block) → of_block b ≡ suc (of_steps (out-Block b).steps)
unfolding of_node of_block of_step
weight-inside b = fold_out-Block ℕ ℕ ℕ node_layer block_layer step_layer b
