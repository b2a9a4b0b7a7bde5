-- How a call of the program ends: what each status means, what was written, and why.
use Rattle.std.specs.Prelude.{◌≡◌, ◌⊎◌, ℕ, Bool, true, false, List, ◌∷◌, ◌++◌, Option, None, Some, codes, decimal}
use Rattle.vd_base.specs.Cause.{Rose}
use Rattle.vd_commands.specs.Command.{Bytes, CommandLine, Command, Unbuilt, command_of, files_of}
use Rattle.vd_commands.specs.Answer.{Answer, HasForm, Answers, written_text}
use Rattle.vd_commands.specs.Limits.{IsWithin}
use Rattle.vd_commands.specs.Reading.{AreRead, IsReached, IsUnreadable, PassesLimit}
use Rattle.vd_commands.specs.Wellformed.{IsMalformed, IsWellFormed}
use Rattle.vd_commands.specs.Seen.{ShelfSeen, SinkSeen, IsUnread, IsUntouched, Adds, AddsPrefix}
use Rattle.vd_commands.specs.declared.ending.Ending.{Ending}
use Rattle.vd_commands.specs.declared.ending.Ending.TheVariants as ending

-- the words are a command, and this is an answer of what its files were read to hold, which passes no limit
pub record IsAnswered (words : CommandLine) (shelf : ShelfSeen) (answer : Answer) : Type 0 where
  pub command : Command
  pub asked : command_of words ≡ Some command
  pub texts : List Bytes
  pub read : AreRead shelf.held (files_of command) texts
  pub within : IsWithin command texts
  pub answers : Answers command texts answer

-- an answer of this kind was written whole
pub record WritesAnswer (words : CommandLine) (shelf : ShelfSeen) (out : SinkSeen) (success : Bool) : Type 0 where
  pub answer : Answer
  pub answered : IsAnswered words shelf answer
  pub kind : answer.success ≡ success
  pub added : Adds out (written_text answer)

-- a front of an answer was written
pub record WritesPrefix (words : CommandLine) (shelf : ShelfSeen) (out : SinkSeen) : Type 0 where
  pub answer : Answer
  pub answered : IsAnswered words shelf answer
  pub added : AddsPrefix out (written_text answer)

-- the first file in the order of the words that could not be read
pub record ReadFails (words : CommandLine) (shelf : ShelfSeen) (file : Bytes) : Type 0 where
  pub command : Command
  pub asked : command_of words ≡ Some command
  pub reached : IsReached command shelf.held file
  pub cause : IsUnreadable shelf file

-- a limit that the command passes
pub record LimitPassed (words : CommandLine) (shelf : ShelfSeen) (what : Bytes) (bound : ℕ) : Type 0 where
  pub command : Command
  pub asked : command_of words ≡ Some command
  pub passes : PassesLimit command shelf what bound

-- all files were read and pass no limit, and this is the first that is outside its grammar, with its first malformed line
pub record HasMalformed (words : CommandLine) (shelf : ShelfSeen) (file : Bytes) (line : ℕ) : Type 0 where
  pub command : Command
  pub asked : command_of words ≡ Some command
  pub texts : List Bytes
  pub read : AreRead shelf.held (files_of command) texts
  pub within : IsWithin command texts
  pub malformed : IsMalformed command texts file line

-- all files were read, pass no limit and are in their grammar, and are outside the form that the command takes today
pub record AreOutside (command : Command) (shelf : ShelfSeen) : Type 0 where
  pub texts : List Bytes
  pub read : AreRead shelf.held (files_of command) texts
  pub within : IsWithin command texts
  pub formed : IsWellFormed command texts
  pub outside : HasForm command texts → ⊥

-- a command that is not built, for which nothing is read, or files outside the form
abbrev pub IsOutside : Command → ShelfSeen → Type 0
IsOutside Unbuilt shelf = IsUnread shelf
IsOutside command shelf = AreOutside command shelf

-- what the words ask for is not built
pub record IsNotBuilt (words : CommandLine) (shelf : ShelfSeen) : Type 0 where
  pub command : Command
  pub asked : command_of words ≡ Some command
  pub outside : IsOutside command shelf

-- what each ending says of the words, the shelf and what was written. Want of memory is free.
abbrev pub Means : Ending → CommandLine → ShelfSeen → SinkSeen → Type 0
Means ending.Accepted words shelf out = WritesAnswer words shelf out true
Means ending.Rejected words shelf out = WritesAnswer words shelf out false
Means ending.Usage words shelf out = (command_of words ≡ None) × IsUnread shelf × IsUntouched out
Means (ending.CannotRead file) words shelf out = ReadFails words shelf file.now × IsUntouched out
Means (ending.Malformed file line) words shelf out = HasMalformed words shelf file.now line × IsUntouched out
Means ending.CannotWrite words shelf out = Rose out.faults out.faults_after × WritesPrefix words shelf out
Means (ending.Limit what bound) words shelf out = LimitPassed words shelf what.now bound × IsUntouched out
Means ending.Memory words shelf out = IsUntouched out ⊎ WritesPrefix words shelf out
Means ending.Unbuilt words shelf out = IsNotBuilt words shelf × IsUntouched out

-- the status of each ending
abbrev pub status_of : Ending → ℕ
status_of ending.Accepted = 0
status_of ending.Rejected = 1
status_of ending.Usage = 2
status_of (ending.CannotRead file) = 3
status_of ending.CannotWrite = 4
status_of (ending.Malformed file line) = 5
status_of (ending.Limit what bound) = 6
status_of ending.Memory = 7
status_of ending.Unbuilt = 8

-- the line that each ending has on the error stream
abbrev pub error_line : Ending → Option Bytes
error_line ending.Accepted = None
error_line ending.Rejected = None
error_line ending.Usage = Some (codes "desk: usage\n")
error_line (ending.CannotRead file) = Some (codes "desk: cannot read " ++ (file.now ++ codes "\n"))
error_line ending.CannotWrite = Some (codes "desk: cannot write\n")
error_line (ending.Malformed file line) = Some (codes "desk: malformed " ++ (file.now ++ (32 ∷ (decimal line ++ codes "\n"))))
error_line (ending.Limit what bound) = Some (codes "desk: limit " ++ (what.now ++ (32 ∷ (decimal bound ++ codes "\n"))))
error_line ending.Memory = Some (codes "desk: memory\n")
error_line ending.Unbuilt = Some (codes "desk: unbuilt\n")

-- a front of the line was added, and all of it, unless memory ran out or the count of failures rose
abbrev pub TellsLine : Ending → Option Bytes → SinkSeen → Type 0
TellsLine e None err = IsUntouched err
TellsLine e (Some line) err = AddsPrefix err line × ((e ≡ ending.Memory → ⊥) → (Rose err.faults err.faults_after → ⊥) → Adds err line)

-- what stands on the error stream after an ending
abbrev pub TellsEnding : Ending → SinkSeen → Type 0
TellsEnding e err = TellsLine e (error_line e) err
