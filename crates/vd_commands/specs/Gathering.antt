-- What the parts of reading a run's files leave.
use Rattle.std.specs.Prelude.{◌≡◌, ◌≤◌, ℕ, List, [], ◌∷◌, length, Some}
use Rattle.vd_machine.specs.declared.answer.Turn.{Turn}
use Rattle.vd_schedule.specs.Schedule.{IsSchedule, IsMalformedAt, HasTooMany, turn_limit}
use Rattle.vd_commands.specs.Answer.{Answer}
use Rattle.vd_commands.specs.Command.{Bytes, CommandLine, Play, command_of}
use Rattle.vd_commands.specs.Limits.{IsWithin, JoinAll, PassesOver, bytes_of, byte_limit, name_limit}
use Rattle.vd_commands.specs.Reading.{AreRead}
use Rattle.vd_commands.specs.Seen.{ShelfSeen}
use Rattle.vd_commands.specs.declared.files.ReadFault.{ReadFault}
use Rattle.vd_commands.specs.declared.files.ReadFault.TheVariants as read
use Rattle.vd_commands.specs.declared.inputs.Gathered.{Gathered}
use Rattle.vd_commands.specs.declared.inputs.Schedule.{Schedule}
use Rattle.vd_commands.specs.declared.inputs.Schedule.TheVariants as schedule
use Rattle.vd_commands.specs.declared.play.Played.{Played}

-- the bytes are the schedule of these turns, and no line of it is malformed
pub record IsSoleSchedule (bytes : Bytes) (turns : List Turn) : Type 0 where
  pub is : IsSchedule bytes turns
  pub formed : (line : ℕ) → IsMalformedAt bytes line → ⊥

-- what was read of the bytes of a schedule, which has no more turns than the limit
abbrev pub IsScheduleOf : Bytes → Schedule → Type 0
IsScheduleOf bytes (schedule.Turns turns) = (HasTooMany bytes → ⊥) × IsSoleSchedule bytes turns
IsScheduleOf bytes (schedule.Malformed line) = (HasTooMany bytes → ⊥) × IsMalformedAt bytes line

-- why the bytes of the file of a schedule are not taken
abbrev pub TurnsStop : Bytes → Bytes → ReadFault → Type 0
TurnsStop bytes file (read.CannotRead named) = ⊥
TurnsStop bytes file (read.Limit what bound) = (what.now ≡ file) × (bound ≡ turn_limit) × HasTooMany bytes
TurnsStop bytes file read.Memory = Unit {0}

-- the names and the bytes are those of the texts, which pass no limit together
pub record IsGathered (g : Gathered) : Type 0 where
  pub names : JoinAll [] g.texts g.names.keys
  pub bytes : g.bytes ≡ bytes_of g.texts
  pub few_bytes : g.bytes ≤ byte_limit
  pub few_names : length g.names.keys ≤ name_limit

-- why texts are not taken together
abbrev pub OverStops : List Bytes → ReadFault → Type 0
OverStops texts (read.CannotRead named) = ⊥
OverStops texts (read.Limit what bound) = PassesOver texts what.now bound
OverStops texts read.Memory = Unit {0}

-- the words ask for a run, and its files were read to hold these texts, which pass no limit
pub record IsRunRead (words : CommandLine) (shelf : ShelfSeen) (link file : Bytes) (files : List Bytes) (turns : Bytes) (texts : List Bytes) : Type 0 where
  pub asked : command_of words ≡ Some (Play link file files)
  pub read : AreRead shelf.held (file ∷ files) (turns ∷ texts)
  pub within : IsWithin (Play link file files) (turns ∷ texts)

-- what was played, as an answer
abbrev pub answer_in : Played → Answer
answer_in p = record { success = p.success; lines = p.lines }
