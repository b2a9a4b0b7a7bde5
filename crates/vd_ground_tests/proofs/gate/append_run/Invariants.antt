use Rattle.std.proofs.Common.{◌≡◌}
use Rattle.vd_gate.specs.Passes.{number_of, made_of, IsFree}
use Rattle.vd_gate.specs.Gates.{IsPassOf}
use Rattle.vd_ground_tests.proofs.gate.append_run.Given as goal

abbrev pub invariant-loop-item : goal.invariant-loop-item
invariant-loop-item g l = IsPassOf l.gate l.pass × IsFree l.pass × (number_of l.pass ≡ number_of l.fn.pass) × (made_of l.pass ≡ made_of l.fn.pass)
