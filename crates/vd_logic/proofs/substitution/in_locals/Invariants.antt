use Rattle.std.proofs.Common.{◌≡◌, take, map}
use Rattle.vd_logic.specs.Parts.{map_local}
use Rattle.vd_logic.specs.Substitution.{substituted}
use Rattle.vd_logic.proofs.substitution.in_locals.Given as goal

abbrev pub invariant-loop-local : goal.invariant-loop-local
invariant-loop-local l = l.found ≡ map (map_local (substituted l.terms)) (take l.local-index l.locals)
