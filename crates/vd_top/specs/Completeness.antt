-- When a call answers by the definitions.
use Rattle.std.specs.Prelude.{◌≡◌, ◌⊎◌, ℕ, List, Some, if◌then◌else◌}
use Rattle.vd_base.specs.Cause.{Rose}
use Rattle.vd_commands.specs.Command.{Bytes, CommandLine, Command, command_of, files_of}
use Rattle.vd_commands.specs.Answer.{Answer, HasForm, Answers, written_text}
use Rattle.vd_commands.specs.Limits.{IsWithin}
use Rattle.vd_commands.specs.Reading.{AreHeld}
use Rattle.vd_commands.specs.Wellformed.{IsWellFormed}
use Rattle.vd_commands.specs.Seen.{ShelfSeen, SinkSeen, Adds}

-- the answer of the texts is written, and the status is its kind
pub record AnswersBy (status : ℕ) (command : Command) (texts : List Bytes) (out : SinkSeen) : Type 0 where
  pub answer : Answer
  pub answers : Answers command texts answer
  pub kind : status ≡ (if answer.success then 0 else 1)
  pub added : Adds out (written_text answer)

-- Where the words are a command, the shelf tells that all its files are held and within the limit, they pass no limit together
-- and are in their grammar, and no count of the shelf or the output rises, the answer is written, unless memory runs out or the
-- texts are outside the form.
abbrev pub IsComplete : ℕ → CommandLine → ShelfSeen → SinkSeen → Type 0
IsComplete status words shelf out = (command : Command) (texts : List Bytes) → command_of words ≡ Some command → AreHeld shelf.held (files_of command) texts
    → IsWithin command texts → IsWellFormed command texts
    → (Rose shelf.faults shelf.faults_after → ⊥) → (Rose out.faults out.faults_after → ⊥)
    → AnswersBy status command texts out ⊎ (status ≡ 7) ⊎ ((status ≡ 8) × (HasForm command texts → ⊥))
