-- What is true of plain scripts.
use Rattle.std.specs.Prelude.{List}
use Rattle.vd_logic.specs.declared.step.Step.{Step}
use Rattle.vd_steps.specs.Script.{IsComplete}
use Rattle.vd_steps.specs.PlainScript.{plain_script}

-- what a script stands for has, at each step, the blocks that its line shows
abbrev pub ScriptsAreComplete : Type 0
ScriptsAreComplete = (steps : List Step) → IsComplete (plain_script steps)
