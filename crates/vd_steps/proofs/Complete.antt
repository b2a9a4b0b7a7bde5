-- Plain scripts have the blocks that their steps ask for.
use Rattle.std.proofs.Common.{◌≡◌, ℕ, suc, List, [], ◌∷◌, map, length, refl, sym, ap, subst}
use Rattle.vd_logic.specs.declared.step.Block.{Block, Block-F, roll-Block, map-Block, fold-roll-Block}
use Rattle.vd_logic.specs.declared.step.Step.{Step, Step-F, roll-Step, map-Step, ind-Step, fold-roll-Step}
use Rattle.vd_logic.specs.declared.step.StepNode.{StepNode, StepNode-F, roll-StepNode, map-StepNode, fold-roll-StepNode}
use Rattle.vd_logic.specs.declared.step.StepNode.TheOpen as node
use Rattle.vd_steps.specs.Script.{count_blocks, block_count, IsComplete, AreComplete}
use Rattle.vd_steps.specs.PlainScript.{Braced, Unnumbered, blocks_of, steps_of, node_layer, block_layer, step_layer, plain_node, plain_block, plain_step}
use Rattle.vd_steps.specs.ScriptLaws.{ScriptsAreComplete}

abbrev NodeOk : Unnumbered → Type 0
NodeOk u = (count_blocks (blocks_of u.1) ≡ block_count u.0) × AreComplete (blocks_of u.1)

abbrev N : StepNode → Type 0
N x = NodeOk (plain_node x)

abbrev B : Block → Type 0
B b = IsComplete (plain_block b).1

abbrev S : Step → Type 0
S x = NodeOk (plain_step x).1

abbrev QN : Type 0
QN = (x : StepNode) × N x

abbrev QB : Type 0
QB = (b : Block) × B b

abbrev QS : Type 0
QS = (x : Step) × S x

node-roll : (l : StepNode-F StepNode Block Step) →
    plain_node (roll-StepNode l) ≡ node_layer (map-StepNode StepNode Block Step Unnumbered Braced (ℕ × Unnumbered) plain_node plain_block plain_step l)
unfolding plain_node plain_block plain_step
node-roll l = fold-roll-StepNode Unnumbered Braced (ℕ × Unnumbered) node_layer block_layer step_layer l

block-roll : (l : Block-F StepNode Block Step) →
    plain_block (roll-Block l) ≡ block_layer (map-Block StepNode Block Step Unnumbered Braced (ℕ × Unnumbered) plain_node plain_block plain_step l)
unfolding plain_node plain_block plain_step
block-roll l = fold-roll-Block Unnumbered Braced (ℕ × Unnumbered) node_layer block_layer step_layer l

step-roll : (l : Step-F StepNode Block Step) →
    plain_step (roll-Step l) ≡ step_layer (map-Step StepNode Block Step Unnumbered Braced (ℕ × Unnumbered) plain_node plain_block plain_step l)
unfolding plain_node plain_block plain_step
step-roll l = fold-roll-Step Unnumbered Braced (ℕ × Unnumbered) node_layer block_layer step_layer l

counted : (bs : List Braced) → count_blocks (blocks_of bs) ≡ length (map (λ b. b.0) bs)
counted [] = refl
counted (b ∷ bs) = ap suc (counted bs)

blocks-ok : (bs : List QB) → AreComplete (blocks_of (map plain_block (map (λ b. b.0) bs)))
blocks-ok [] = tt
blocks-ok (b ∷ bs) = (b.1, blocks-ok bs)

steps-ok : (xs : List QS) → IsComplete (steps_of (map plain_step (map (λ x. x.0) xs)))
steps-ok [] = tt
steps-ok (x ∷ xs) = (x.1.0, (x.1.1, steps-ok xs))

abbrev bare : StepNode-F QN QB QS → StepNode-F StepNode Block Step
bare l = map-StepNode QN QB QS StepNode Block Step (λ x. x.0) (λ b. b.0) (λ x. x.0) l

abbrev plained : StepNode-F StepNode Block Step → Unnumbered
plained l = node_layer (map-StepNode StepNode Block Step Unnumbered Braced (ℕ × Unnumbered) plain_node plain_block plain_step l)

layer-ok : (l : StepNode-F QN QB QS) → NodeOk (plained (bare l))
layer-ok (node.If covers by a b) = (refl, (a.1, (b.1, tt)))
layer-ok (node.While i q names a b) = (refl, (a.1, (b.1, tt)))
layer-ok (node.Block n q names a) = (refl, (a.1, tt))
layer-ok (node.Pose q names a) = (refl, (a.1, tt))
layer-ok (node.Malloc v a b) = (refl, (a.1, (b.1, tt)))
layer-ok (node.Split p a b) = (refl, (a.1, (b.1, tt)))
layer-ok (node.Unfold n bs) = (counted (map plain_block (map (λ b. b.0) bs)), blocks-ok bs)
layer-ok l = (refl, tt)

node-ok : (l : StepNode-F QN QB QS) → N (roll-StepNode (bare l))
node-ok l = subst NodeOk (sym (node-roll (bare l))) (layer-ok l)

block-ok : (l : Block-F QN QB QS) → B (roll-Block (map-Block QN QB QS StepNode Block Step (λ x. x.0) (λ b. b.0) (λ x. x.0) l))
block-ok l =
    subst (λ b. IsComplete b.1) (sym (block-roll (map-Block QN QB QS StepNode Block Step (λ x. x.0) (λ b. b.0) (λ x. x.0) l))) (steps-ok l.steps)

step-ok : (l : Step-F QN QB QS) → S (roll-Step (map-Step QN QB QS StepNode Block Step (λ x. x.0) (λ b. b.0) (λ x. x.0) l))
step-ok l =
    subst (λ x. NodeOk x.1) (sym (step-roll (map-Step QN QB QS StepNode Block Step (λ x. x.0) (λ b. b.0) (λ x. x.0) l))) l.node.1

complete-step : (x : Step) → S x
complete-step =
    ind-Step N B S
    (λ l y is. subst (λ z. N (roll-StepNode z)) is (node-ok y))
    (λ l y is. subst (λ z. B (roll-Block z)) is (block-ok y))
    (λ l y is. subst (λ z. S (roll-Step z)) is (step-ok y))

pub scripts_are_complete : ScriptsAreComplete
scripts_are_complete [] = tt
scripts_are_complete (x ∷ xs) = let h = complete-step x in (h.0, (h.1, scripts_are_complete xs))
