-- What a step does, beside the values that it leaves.
use Rattle.std.specs.Prelude.{[], ◌∷◌}
use Rattle.vd_check.specs.declared.script.Effect.{Effect}
use Rattle.vd_check.specs.declared.script.Effect.TheVariants as effect
use Rattle.vd_check.specs.Script.{Applied, Children, Refused}
use Rattle.vd_check.specs.Value.{Locals}

-- the states that a step leads to, where it leaves these values
abbrev pub applied : Effect → Locals → Applied
applied (effect.Goes left) locals = Children (record { locals = locals; left = left.now } ∷ [])
applied effect.Ends locals = Children []
applied (effect.Refused condition) locals = Refused condition
