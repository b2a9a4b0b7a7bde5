-- The numbers of the rules of steps as `vd_logic` has them: those of what they stand for.
use Rattle.std.specs.Prelude.{ℕ}
use Rattle.vd_logic.specs.declared.step.Step.{Step}
use Rattle.vd_logic.specs.declared.step.StepNode.{StepNode}
use Rattle.vd_steps.specs.PlainScript.{plain_node, plain_step}
use Rattle.vd_steps.specs.Script.{rule_of}

unfoldable pub node_number : StepNode → ℕ
node_number x = rule_of (plain_node x).0

-- the number of a step's rule
unfoldable pub step_number : Step → ℕ
step_number x = rule_of (plain_step x).1.0
