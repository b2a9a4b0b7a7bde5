use Rattle.std.proofs.Common.{length}
use Rattle.vd_schedule.proofs.Readings.{HasRead}
use Rattle.vd_schedule.proofs.reading.entries_of.Given as goal

abbrev pub invariant-loop-entry : goal.invariant-loop-entry
invariant-loop-entry l = HasRead l.bytes l.entries l.rest

abbrev pub decreases-loop-entry : goal.decreases-loop-entry
decreases-loop-entry l = length l.rest
