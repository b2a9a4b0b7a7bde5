-- Schedules: their turns, the limit of turns, and where bytes are no schedule.
use Rattle.std.specs.Prelude.{◌≡◌, ◌⊎◌, ℕ, ◌+◌, ◌<◌, ◌≤◌, List, [], flat_map, length, replicate, All, Result, IsErrAnd}
use Rattle.vd_machine.specs.declared.answer.Turn.{Turn}
use Rattle.vd_schedule.specs.declared.entry.Entry.{Entry}
use Rattle.vd_schedule.specs.declared.schedule.ScheduleFault.{ScheduleFault}
use Rattle.vd_schedule.specs.declared.schedule.ScheduleFault.TheVariants.{TooMany, Bad, Memory}
use Rattle.vd_schedule.specs.Entries.{IsEntry, AreBefore, text_of}

-- the turns of an entry: its thread's, with its pick, as many as it counts
abbrev pub turns_in : Entry → List Turn
turns_in e = replicate e.count (record { thread = e.thread; pick = e.pick })

-- the turns of entries, in their order
abbrev pub turns_of : List Entry → List Turn
turns_of entries = flat_map turns_in entries

abbrev pub turn_limit : ℕ
turn_limit = 1000000

-- the bytes are lines of entries, whose turns these are, and there are no more than the limit
pub record IsSchedule (bytes : List ℕ) (turns : List Turn) : Type 0 where
  pub entries : List Entry
  pub lines : bytes ≡ text_of entries
  pub each : All IsEntry entries
  pub are : turns ≡ turns_of entries
  pub within : length turns ≤ turn_limit

-- the lines before the first malformed one, or all lines, have more turns than the limit
pub record HasTooMany (bytes : List ℕ) : Type 0 where
  pub entries : List Entry
  pub rest : List ℕ
  pub before : AreBefore bytes entries rest
  pub beyond : turn_limit < length (turns_of entries)

-- the first malformed line is of this number, from 1, and the lines before it have no more turns than the limit
pub record IsMalformedAt (bytes : List ℕ) (line : ℕ) : Type 0 where
  pub entries : List Entry
  pub rest : List ℕ
  pub before : AreBefore bytes entries rest
  pub some : rest ≡ [] → ⊥
  pub within : length (turns_of entries) ≤ turn_limit
  pub at : line ≡ length entries + 1

-- memory was wanting, which says nothing of the schedule
abbrev pub IsMemory : ScheduleFault → Type 0
IsMemory TooMany = ⊥
IsMemory (Bad line) = ⊥
IsMemory (Memory fault) = Unit {0}

-- the result is this answer, unless memory was wanting
abbrev pub IsOrMemory : Result (List Turn) ScheduleFault → Result (List Turn) ScheduleFault → Type 0
IsOrMemory result answer = (result ≡ answer) ⊎ IsErrAnd result IsMemory
