-- What `play` writes of a run.
use Rattle.std.specs.Prelude.{ℕ, ◌-◌, Bool, true, false, ◌&&◌, List, [], ◌∷◌, ◌++◌, Option, None, Some, is_none, codes, decimal, nat_lt, cond}
use Rattle.vd_mem.specs.declared.value.Value.{Value}
use Rattle.vd_mem.specs.declared.value.Value.TheVariants as value
use Rattle.vd_machine.specs.declared.answer.Cause.{Cause}
use Rattle.vd_machine.specs.declared.answer.Cause.TheVariants as cause
use Rattle.vd_machine.specs.declared.answer.End.{End}
use Rattle.vd_machine.specs.declared.answer.End.TheVariants as finish
use Rattle.vd_machine.specs.declared.answer.Outcome.{Outcome}
use Rattle.vd_machine.specs.declared.answer.Spot.{Spot}
use Rattle.vd_commands.specs.Command.{Bytes}

-- a 32-bit integer, read as signed, in decimal
abbrev pub signed : ℕ → Bytes
signed n = cond (nat_lt n 2147483648) (decimal n) (45 ∷ decimal (4294967296 - n))

-- a value that main returned
abbrev pub value_words : Value → Bytes
value_words value.Undef = codes "undef"
value_words (value.Int n) = codes "int " ++ signed n
value_words (value.Ptr block offset) = codes "ptr " ++ (decimal block ++ 32 ∷ decimal offset)

-- why a statement is stuck
abbrev pub cause_word : Cause → Bytes
cause_word cause.Undef = codes "undef"
cause_word cause.Overflow = codes "overflow"
cause_word cause.Divide = codes "divide"
cause_word cause.Shift = codes "shift"
cause_word cause.Address = codes "address"
cause_word cause.LockCell = codes "lockcell"
cause_word cause.NotHeld = codes "notheld"
cause_word cause.Free = codes "free"
cause_word cause.Far = codes "far"
cause_word cause.Pointer = codes "pointer"

-- how many turns the run took
abbrev pub turns_line : ℕ → Bytes
turns_line turns = codes "turns " ++ decimal turns

-- how the run ended
abbrev pub end_line : End → Bytes
end_line (finish.Main v) = codes "end main " ++ value_words v
end_line (finish.Stuck thread c) = codes "end stuck " ++ (decimal thread ++ 32 ∷ cause_word c)
end_line finish.Open = codes "end open"

-- the first race: the turns before it, the two threads, and the cell
abbrev pub race_line : Option (ℕ × ℕ × ℕ × Spot) → Bytes
race_line None = codes "race none"
race_line (Some (turns, first, second, spot)) =
    codes "race " ++ (decimal turns ++ 32 ∷ (decimal first ++ 32 ∷ (decimal second ++ 32 ∷ (decimal spot.block ++ 32 ∷ decimal spot.offset))))

-- the lines of a run
abbrev pub lines_of : Outcome → List Bytes
lines_of o = turns_line o.turns ∷ (end_line o.end ∷ (race_line o.race ∷ []))

-- the run is not stuck
abbrev pub is_unstuck : End → Bool
is_unstuck (finish.Main v) = true
is_unstuck (finish.Stuck thread c) = false
is_unstuck finish.Open = true

-- neither stuck nor a race
abbrev pub goes_well : Outcome → Bool
goes_well o = is_unstuck o.end && is_none o.race
