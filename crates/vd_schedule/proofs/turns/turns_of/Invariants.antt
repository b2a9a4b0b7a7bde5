use Rattle.std.proofs.Common.{◌≡◌, take}
use Rattle.vd_schedule.specs.Schedule.{turns_of}
use Rattle.vd_schedule.proofs.turns.turns_of.Given as goal

abbrev pub invariant-loop-entry : goal.invariant-loop-entry
invariant-loop-entry l = l.turns ≡ turns_of (take l.entry-index l.entries)
