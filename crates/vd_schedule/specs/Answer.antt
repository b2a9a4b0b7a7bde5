-- What the reader answers, from what it has read.
use Rattle.std.specs.Prelude.{ℕ, ◌+◌, Bool, true, false, List, [], ◌∷◌, length, nat_le, Result, Ok, Err}
use Rattle.vd_machine.specs.declared.answer.Turn.{Turn}
use Rattle.vd_schedule.specs.declared.entry.Entry.{Entry}
use Rattle.vd_schedule.specs.declared.schedule.ScheduleFault.{ScheduleFault}
use Rattle.vd_schedule.specs.declared.schedule.ScheduleFault.TheVariants.{TooMany, Bad}
use Rattle.vd_schedule.specs.Schedule.{turns_of, turn_limit}

-- the turns are within the limit: what is left must be nothing
abbrev pub answer_within : List Entry → List ℕ → Result (List Turn) ScheduleFault
answer_within entries [] = Ok (turns_of entries)
answer_within entries (b ∷ rest) = Err (Bad (length entries + 1))

-- whether the turns are within the limit
abbrev pub answer_at : Bool → List Entry → List ℕ → Result (List Turn) ScheduleFault
answer_at true entries rest = answer_within entries rest
answer_at false entries rest = Err TooMany

-- the answer for these entries before the first malformed line, and the bytes from that one on
abbrev pub answer_of : List Entry → List ℕ → Result (List Turn) ScheduleFault
answer_of entries rest = answer_at (nat_le (length (turns_of entries)) turn_limit) entries rest
