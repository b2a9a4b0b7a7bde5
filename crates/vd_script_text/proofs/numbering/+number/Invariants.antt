use Rattle.std.proofs.Common.{◌≡◌, ◌≤◌, map}
use Rattle.vd_logic_grammar.specs.Numbers.{in_order, numbered_step, numbered_block}
use Rattle.vd_script_text.proofs.Counting.{behind}
use Rattle.vd_script_text.proofs.Weights.{of_node, of_block, of_step, of_blocks, of_steps}
use Rattle.vd_script_text.proofs.numbering.+number.Given as goal

abbrev pub decreases-in_node : goal.decreases-in_node
decreases-in_node l = of_node l.node

abbrev pub decreases-in_block : goal.decreases-in_block
decreases-in_block l = of_block l.block

abbrev pub decreases-in_blocks : goal.decreases-in_blocks
decreases-in_blocks l = of_blocks l.blocks

abbrev pub decreases-in_step : goal.decreases-in_step
decreases-in_step l = of_step l.step

abbrev pub decreases-in_steps : goal.decreases-in_steps
decreases-in_steps l = of_steps l.steps

abbrev pub invariant-in_blocks-each : goal.invariant-in_blocks-each
invariant-in_blocks-each l =
    (behind l.found (in_order (map numbered_block l.block-iterator.rest.items) l.number) ≡ in_order (map numbered_block l.fn.blocks) l.fn.number)
    × (of_blocks l.block-iterator.rest.items ≤ of_blocks l.fn.blocks)

abbrev pub invariant-in_steps-each : goal.invariant-in_steps-each
invariant-in_steps-each l =
    (behind l.found (in_order (map numbered_step l.step-iterator.rest.items) l.number) ≡ in_order (map numbered_step l.fn.steps) l.fn.number)
    × (of_steps l.step-iterator.rest.items ≤ of_steps l.fn.steps)
