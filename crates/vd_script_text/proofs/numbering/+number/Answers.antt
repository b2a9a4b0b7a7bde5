use Rattle.std.proofs.Common.{◌≡◌, suc, ◌+◌, ◌∷◌, map, arith, sym, ap, ◌∙◌}
use Rattle.std.proofs.lemmas.Grind.{common_steps}
use Rattle.vd_logic.specs.declared.step.Block.{out-Block}
use Rattle.vd_logic.specs.declared.step.Step.{out-Step}
use Rattle.vd_logic_grammar.specs.Numbers.{numbered_node}
use Rattle.vd_script_text.proofs.Counting.{if_numbered, while_numbered, block_numbered, pose_numbered, malloc_numbered, unfold_numbered, split_numbered, plain_numbered, step_numbered, block_made}
use Rattle.vd_script_text.proofs.Weights.{total, of_node, of_block, of_step, of_blocks, of_steps, weight-If, weight-While, weight-Block, weight-Pose, weight-Malloc, weight-Unfold, weight-Split, weight-Step, weight-inside}
use Rattle.vd_script_text.proofs.numbering.+number.Goals as goal

pub in_block-in_steps-requires : goal.in_block-in_steps-requires
in_block-in_steps-requires t c =
    let w : of_block c.args.block ≡ suc (of_steps (out-Block c.args.block).steps) = weight-inside c.args.block in
    (omega (arith, c.decreases, w), tt)

pub in_block-returns : goal.in_block-returns
in_block-returns t c = block_made c.args.block _ _ _ c.in_ok-steps.ensures

pub in_blocks-in_block-requires : goal.in_blocks-in_block-requires
in_blocks-in_block-requires t c =
    let e : c.each.block-iterator.rest.items ≡ c.in-Some.block ∷ c.next.new.self.rest.items = first_of (grind arith, grind (arith, common_steps)) in
    let w : of_blocks c.each.block-iterator.rest.items ≡ suc (of_block c.in-Some.block + total (map of_block c.next.new.self.rest.items)) = ap of_blocks e in
    (omega (arith, c.decreases, c.each.invariant.1, w), tt)

pub in_node-in_block-requires : goal.in_node-in_block-requires
in_node-in_block-requires t c =
    let w : of_node c.args.node ≡ suc (of_block c.in-If.a + of_block c.in-If.b) = ap of_node c.in-If.is ∙ weight-If _ _ _ _ in
    (omega (arith, c.decreases, w), tt)

pub in_node-in_block-requires-in-If : goal.in_node-in_block-requires-in-If
in_node-in_block-requires-in-If t c =
    let w : of_node c.args.node ≡ suc (of_block c.in-If.a + of_block c.in-If.b) = ap of_node c.in-If.is ∙ weight-If _ _ _ _ in
    (omega (arith, c.decreases, w), tt)

pub in_node-in_block-requires-in-While : goal.in_node-in_block-requires-in-While
in_node-in_block-requires-in-While t c =
    let w : of_node c.args.node ≡ suc (of_block c.in-While.a + of_block c.in-While.b) = ap of_node c.in-While.is ∙ weight-While _ _ _ _ _ in
    (omega (arith, c.decreases, w), tt)

pub in_node-in_block-requires-in-While-2 : goal.in_node-in_block-requires-in-While-2
in_node-in_block-requires-in-While-2 t c =
    let w : of_node c.args.node ≡ suc (of_block c.in-While.a + of_block c.in-While.b) = ap of_node c.in-While.is ∙ weight-While _ _ _ _ _ in
    (omega (arith, c.decreases, w), tt)

pub in_node-in_block-requires-in-Block : goal.in_node-in_block-requires-in-Block
in_node-in_block-requires-in-Block t c =
    let w : of_node c.args.node ≡ suc (of_block c.in-Block.a) = ap of_node c.in-Block.is ∙ weight-Block _ _ _ _ in
    (omega (arith, c.decreases, w), tt)

pub in_node-in_block-requires-in-Pose : goal.in_node-in_block-requires-in-Pose
in_node-in_block-requires-in-Pose t c =
    let w : of_node c.args.node ≡ suc (of_block c.in-Pose.a) = ap of_node c.in-Pose.is ∙ weight-Pose _ _ _ in
    (omega (arith, c.decreases, w), tt)

pub in_node-in_block-requires-in-Malloc : goal.in_node-in_block-requires-in-Malloc
in_node-in_block-requires-in-Malloc t c =
    let w : of_node c.args.node ≡ suc (of_block c.in-Malloc.a + of_block c.in-Malloc.b) = ap of_node c.in-Malloc.is ∙ weight-Malloc _ _ _ in
    (omega (arith, c.decreases, w), tt)

pub in_node-in_block-requires-in-Malloc-2 : goal.in_node-in_block-requires-in-Malloc-2
in_node-in_block-requires-in-Malloc-2 t c =
    let w : of_node c.args.node ≡ suc (of_block c.in-Malloc.a + of_block c.in-Malloc.b) = ap of_node c.in-Malloc.is ∙ weight-Malloc _ _ _ in
    (omega (arith, c.decreases, w), tt)

pub in_node-in_blocks-requires : goal.in_node-in_blocks-requires
in_node-in_blocks-requires t c =
    let w : of_node c.args.node ≡ suc (of_blocks c.in-Unfold.cases) = ap of_node c.in-Unfold.is ∙ weight-Unfold _ _ in
    (omega (arith, c.decreases, w), tt)

pub in_node-in_block-requires-in-Split : goal.in_node-in_block-requires-in-Split
in_node-in_block-requires-in-Split t c =
    let w : of_node c.args.node ≡ suc (of_block c.in-Split.a + of_block c.in-Split.b) = ap of_node c.in-Split.is ∙ weight-Split _ _ _ in
    (omega (arith, c.decreases, w), tt)

pub in_node-in_block-requires-in-Split-2 : goal.in_node-in_block-requires-in-Split-2
in_node-in_block-requires-in-Split-2 t c =
    let w : of_node c.args.node ≡ suc (of_block c.in-Split.a + of_block c.in-Split.b) = ap of_node c.in-Split.is ∙ weight-Split _ _ _ in
    (omega (arith, c.decreases, w), tt)

pub in_node-returns-in_ok-second-in-If : goal.in_node-returns-in_ok-second-in-If
in_node-returns-in_ok-second-in-If t c = if_numbered _ _ _ _ _ _ _ c.in_ok-first-in-If.ensures c.in_ok-second-in-If.ensures _ _ ∙ ap (λ x. numbered_node x c.args.number.now) (sym c.in-If.is)

pub in_node-returns-in_ok-second-in-While : goal.in_node-returns-in_ok-second-in-While
in_node-returns-in_ok-second-in-While t c = while_numbered _ _ _ _ _ _ _ c.in_ok-first-in-While.ensures c.in_ok-second-in-While.ensures _ _ _ ∙ ap (λ x. numbered_node x c.args.number.now) (sym c.in-While.is)

pub in_node-returns-in_ok-first-in-Block : goal.in_node-returns-in_ok-first-in-Block
in_node-returns-in_ok-first-in-Block t c = block_numbered _ _ _ _ c.in_ok-first-in-Block.ensures _ _ _ ∙ ap (λ x. numbered_node x c.args.number.now) (sym c.in-Block.is)

pub in_node-returns-in_ok-first-in-Pose : goal.in_node-returns-in_ok-first-in-Pose
in_node-returns-in_ok-first-in-Pose t c = pose_numbered _ _ _ _ c.in_ok-first-in-Pose.ensures _ _ ∙ ap (λ x. numbered_node x c.args.number.now) (sym c.in-Pose.is)

pub in_node-returns-in_ok-second-in-Malloc : goal.in_node-returns-in_ok-second-in-Malloc
in_node-returns-in_ok-second-in-Malloc t c = malloc_numbered _ _ _ _ _ _ _ c.in_ok-first-in-Malloc.ensures c.in_ok-second-in-Malloc.ensures _ ∙ ap (λ x. numbered_node x c.args.number.now) (sym c.in-Malloc.is)

pub in_node-returns-in_ok-numbered-in-Unfold : goal.in_node-returns-in_ok-numbered-in-Unfold
in_node-returns-in_ok-numbered-in-Unfold t c = unfold_numbered _ _ _ _ _ c.in_ok-numbered-in-Unfold.ensures ∙ ap (λ x. numbered_node x c.args.number.now) (sym c.in-Unfold.is)

pub in_node-returns-in_ok-second-in-Split : goal.in_node-returns-in_ok-second-in-Split
in_node-returns-in_ok-second-in-Split t c = split_numbered _ _ _ _ _ _ _ c.in_ok-first-in-Split.ensures c.in_ok-second-in-Split.ensures _ ∙ ap (λ x. numbered_node x c.args.number.now) (sym c.in-Split.is)

pub in_node-returns-in_default : goal.in_node-returns-in_default
in_node-returns-in_default t c =
    plain_numbered c.args.node (record {
      no_if = c.in_default.not-If;
      no_while = c.in_default.not-While;
      no_block = c.in_default.not-Block;
      no_pose = c.in_default.not-Pose;
      no_malloc = c.in_default.not-Malloc;
      no_unfold = c.in_default.not-Unfold;
      no_split = c.in_default.not-Split;
    }) _

pub in_step-in_node-requires : goal.in_step-in_node-requires
in_step-in_node-requires t c =
    let w : of_step c.args.step ≡ suc (of_node (out-Step c.args.step).node) = weight-Step c.args.step in
    (omega (arith, c.decreases, w), tt)

pub in_step-returns : goal.in_step-returns
in_step-returns t c =
    step_numbered c.args.step _ c.args.number.now _ (c.in_ok-node.ensures ∙ ap (λ k. numbered_node (out-Step c.args.step).node k) c.following.ensures)

pub in_steps-in_step-requires : goal.in_steps-in_step-requires
in_steps-in_step-requires t c =
    let e : c.each.step-iterator.rest.items ≡ c.in-Some.step ∷ c.next.new.self.rest.items = first_of (grind arith, grind (arith, common_steps)) in
    let w : of_steps c.each.step-iterator.rest.items ≡ suc (of_step c.in-Some.step + total (map of_step c.next.new.self.rest.items)) = ap of_steps e in
    (omega (arith, c.decreases, c.each.invariant.1, w), tt)
