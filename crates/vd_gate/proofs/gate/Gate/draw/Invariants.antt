use Rattle.std.proofs.Common.{◌≡◌}
use Rattle.vd_gate.specs.Steps.{HasLooked}
use Rattle.vd_gate.proofs.gate.Gate.draw.Given as goal

abbrev pub invariant-loop : goal.invariant-loop
invariant-loop g l = (l.seat.table_id ≡ l.initial.seat.table_id) × (l.seat.id ≡ l.initial.seat.id) × HasLooked l.initial.seat.me l.seat.me
