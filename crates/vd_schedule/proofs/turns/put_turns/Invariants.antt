use Rattle.std.proofs.Common.{◌≡◌, ◌++◌, replicate}
use Rattle.vd_schedule.proofs.turns.put_turns.Given as goal

abbrev pub invariant-loop : goal.invariant-loop
invariant-loop l = l.turns ≡ l.initial.turns ++ replicate l.counter l.turn
