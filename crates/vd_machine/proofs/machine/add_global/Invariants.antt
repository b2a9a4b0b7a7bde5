use Rattle.std.proofs.Common.{◌≡◌, [], ◌∷◌, ◌++◌}
use Rattle.vd_machine.specs.Inside.{partly}
use Rattle.vd_machine.proofs.machine.add_global.Given as goal

abbrev pub invariant-loop-offset : goal.invariant-loop-offset
invariant-loop-offset l = l.memory ≡ l.fn.memory ++ partly l.globals l.g l.offset ∷ []
