use Rattle.std.proofs.Common.{◌≡◌, map}
use Rattle.vd_units.proofs.shape.names_of.Given as goal

abbrev pub invariant-loop-mention : goal.invariant-loop-mention
invariant-loop-mention l = l.names ≡ map (λ m. m.name) l.yielded
