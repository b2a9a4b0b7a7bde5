-- How a call of the program ends.
use Rattle.std.specs.Prelude.{◌≡◌, ℕ}
use Rattle.vd_commands.specs.Call.{Means, TellsEnding, status_of}
use Rattle.vd_commands.specs.Command.{CommandLine}
use Rattle.vd_commands.specs.Seen.{ShelfSeen, SinkSeen}
use Rattle.vd_commands.specs.declared.ending.Ending.{Ending}

-- the status of a call, what it means, and what it says
pub record Ends (status : ℕ) (words : CommandLine) (shelf : ShelfSeen) (out err : SinkSeen) : Type 0 where
  pub ending : Ending
  pub is : status ≡ status_of ending
  pub means : Means ending words shelf out
  pub line : TellsEnding ending err
