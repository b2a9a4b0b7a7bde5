use Rattle.std.proofs.Common.{◌≡◌, drop, length, nat_le}
use Rattle.vd_schedule.specs.Schedule.{turn_limit, turns_of}
use Rattle.vd_schedule.proofs.turns.is_within.Given as goal

-- the turns of the entries that are left are within what is left exactly where all are within the limit
abbrev pub invariant-loop-entry : goal.invariant-loop-entry
invariant-loop-entry l = nat_le (length (turns_of (drop l.entry-index l.entries))) l.left ≡ nat_le (length (turns_of l.entries)) turn_limit
