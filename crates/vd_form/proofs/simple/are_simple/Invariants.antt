use Rattle.std.proofs.Common.{◌≡◌, drop}
use Rattle.vd_form.specs.Simple.{are_simple}
use Rattle.vd_form.proofs.simple.are_simple.Given as goal

-- those left are simple exactly where all are
abbrev pub invariant-loop-s : goal.invariant-loop-s
invariant-loop-s l = are_simple l.temps (drop l.s-index l.body) ≡ are_simple l.temps l.body
