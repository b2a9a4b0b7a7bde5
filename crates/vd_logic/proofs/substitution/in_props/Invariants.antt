use Rattle.std.proofs.Common.{◌≡◌, take, map}
use Rattle.vd_logic.specs.Parts.{map_prop}
use Rattle.vd_logic.specs.Substitution.{substituted}
use Rattle.vd_logic.proofs.substitution.in_props.Given as goal

abbrev pub invariant-loop-prop : goal.invariant-loop-prop
invariant-loop-prop l = l.found ≡ map (map_prop (substituted l.terms)) (take l.prop-index l.props)
