-- What the proof scripts of `vd_logic` stand for.
use Rattle.std.specs.Prelude.{ℕ, List, [], ◌∷◌, map}
use Rattle.vd_logic.specs.declared.step.Block.{Block, Block-F, fold-Block}
use Rattle.vd_logic.specs.declared.step.Step.{Step, Step-F, fold-Step}
use Rattle.vd_logic.specs.declared.step.StepNode.{StepNode, StepNode-F, fold-StepNode}
use Rattle.vd_logic.specs.declared.step.StepNode.TheOpen as node
use Rattle.vd_terms.specs.Terms.{Name}
use Rattle.vd_terms.specs.PlainLogic.{plain, plain_fact, plain_label, plain_assertion}
use Rattle.vd_steps.specs.Script as s
use Rattle.vd_steps.specs.Script.{Move, Steps, Blocks}

-- a block: its names and its steps; a step without its number
abbrev pub Braced : Type 0
Braced = List Name × Steps

abbrev pub Unnumbered : Type 0
Unnumbered = Move × List Braced

abbrev pub blocks_of : List Braced → Blocks
blocks_of [] = s.NoBlock
blocks_of (b ∷ bs) = s.WithBlock b.1 (blocks_of bs)

abbrev pub steps_of : List (ℕ × Unnumbered) → Steps
steps_of [] = s.End
steps_of (x ∷ xs) = s.Then x.0 x.1.0 (blocks_of x.1.1) (steps_of xs)

abbrev pub alone : Move → Unnumbered
alone m = (m, [])

abbrev pub with_one : (List Name → Move) → Braced → Unnumbered
with_one f b = (f b.0, b ∷ [])

abbrev pub with_two : (List Name → List Name → Move) → Braced → Braced → Unnumbered
with_two f b d = (f b.0 d.0, b ∷ d ∷ [])

abbrev pub node_layer : StepNode-F Unnumbered Braced (ℕ × Unnumbered) → Unnumbered
node_layer node.Skip = alone s.Skip
node_layer (node.Set covers by) = alone (s.Set covers by)
node_layer (node.Load n covers by) = alone (s.Load n covers by)
node_layer (node.Store n covers by) = alone (s.Store n covers by)
node_layer (node.If covers by b d) = with_two (s.If covers by) b d
node_layer (node.While i q names b d) = with_two (s.While (plain_assertion i) (plain_assertion q) names) b d
node_layer (node.Break ts by) = alone (s.Break (map plain ts) by)
node_layer (node.Continue ts by) = alone (s.Continue (map plain ts) by)
node_layer (node.Return ts covers by) = alone (s.Return (map plain ts) covers by)
node_layer (node.Fall ts by) = alone (s.Fall (map plain ts) by)
node_layer (node.Block n a names b) = with_one (s.Block n (plain_assertion a) names) b
node_layer (node.Pose a names b) = with_one (s.Pose (plain_assertion a) names) b
node_layer (node.Call ts covers by names) = alone (s.Call (map plain ts) covers by names)
node_layer (node.Malloc v b d) = with_two (s.Malloc v) b d
node_layer (node.Free n m by) = alone (s.Free n m by)
node_layer (node.MakeLock n l covers by) = alone (s.MakeLock n (plain_label l) covers by)
node_layer (node.Acquire n covers) = alone (s.Acquire n covers)
node_layer (node.Release n m covers) = alone (s.Release n m covers)
node_layer (node.FreeLock n m covers by) = alone (s.FreeLock n m covers by)
node_layer (node.Spawn ts covers by) = alone (s.Spawn (map plain ts) covers by)
node_layer (node.Fold p k args ts by) = alone (s.Fold p k (map plain args) (map plain ts) by)
node_layer (node.Unfold n bs) = (s.Unfold n (map (λ b. b.0) bs), bs)
node_layer (node.Split p b d) = with_two (s.Split (plain_fact p)) b d
node_layer (node.Absurd by) = alone (s.Absurd by)
node_layer (node.Have p by) = alone (s.Have (plain_fact p) by)
node_layer (node.Law l ts by) = alone (s.Law l (map plain ts) by)
node_layer (node.Subst x) = alone (s.Subst x)
node_layer (node.Rewrite back k o) = alone (s.Rewrite back k o)
node_layer (node.Cut n a b) = alone (s.Cut n (plain a) (plain b))
node_layer (node.Glue n m) = alone (s.Glue n m)
node_layer (node.Share n t by) = alone (s.Share n (plain t) by)
node_layer (node.Unshare n m by) = alone (s.Unshare n m by)
node_layer (node.Agree n m by) = alone (s.Agree n m by)
node_layer (node.Bounds n m by) = alone (s.Bounds n m by)
node_layer (node.Apart n m by) = alone (s.Apart n m by)
node_layer (node.Forget f) = alone (s.Forget f)
node_layer (node.Meet ts by) = alone (s.Meet (map plain ts) by)
node_layer (node.Name x t) = alone (s.Naming x (plain t))

abbrev pub block_layer : Block-F Unnumbered Braced (ℕ × Unnumbered) → Braced
block_layer b = (b.names, steps_of b.steps)

abbrev pub step_layer : Step-F Unnumbered Braced (ℕ × Unnumbered) → ℕ × Unnumbered
step_layer x = (x.number, x.node)

-- what a step does, and its blocks
unfoldable pub plain_node : StepNode → Unnumbered
plain_node = fold-StepNode Unnumbered Braced (ℕ × Unnumbered) node_layer block_layer step_layer

unfoldable pub plain_block : Block → Braced
plain_block = fold-Block Unnumbered Braced (ℕ × Unnumbered) node_layer block_layer step_layer

-- a step's number, what it does, and its blocks
unfoldable pub plain_step : Step → ℕ × Unnumbered
plain_step = fold-Step Unnumbered Braced (ℕ × Unnumbered) node_layer block_layer step_layer

-- the plain script of a script
abbrev pub plain_script : List Step → Steps
plain_script steps = steps_of (map plain_step steps)
