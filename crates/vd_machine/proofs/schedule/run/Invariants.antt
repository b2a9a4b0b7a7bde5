use Rattle.std.proofs.Common.{◌≡◌, ◌<◌, ◌^◌, length}
use Rattle.std.specs.Prelude.{IfSome}
use Rattle.vd_machine.specs.Along.{Along, IsRaceUpTo}
use Rattle.vd_machine.specs.Watching.{Watches}
use Rattle.vd_machine.proofs.schedule.run.Given as goal

abbrev pub invariant-loop-turn : goal.invariant-loop-turn
invariant-loop-turn l = record {
  along : Along l.program l.schedule l.turn-index l.machine;
  race : IsRaceUpTo l.program l.schedule l.turn-index l.race;
  globals : length l.program.globals < 2 ^ 30;
  turns : l.turns ≡ l.turn-index;
  watch : IfSome l.watch (Watches l.machine.program.globals l.machine.system);
}
