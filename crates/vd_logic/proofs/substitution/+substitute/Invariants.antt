use Rattle.std.proofs.Common.{◌≡◌, take, map}
use Rattle.vd_logic.specs.Substitution.{substituted}
use Rattle.vd_logic.proofs.substitution.+substitute.Given as goal

abbrev pub invariant-in_terms-loop-arg : goal.invariant-in_terms-loop-arg
invariant-in_terms-loop-arg l = l.found ≡ map (substituted l.terms) (take l.arg-index l.args)
