use Rattle.std.proofs.Common.{◌≡◌}
use Rattle.vd_gate.specs.Passes.{number_of, IsFree}
use Rattle.vd_gate.specs.Gates.{IsPassOf}
use Rattle.vd_ground_tests.proofs.gate.a_gate_makes_64_passes.Given as goal

abbrev pub invariant-loop-number : goal.invariant-loop-number
invariant-loop-number g l = IsPassOf l.gate l.pass × IsFree l.pass × (number_of l.pass ≡ 0)
