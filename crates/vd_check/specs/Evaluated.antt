-- What judging needs of a value: its number, and whether all that it owes is proved.
use Rattle.std.specs.Prelude.{ℤ, pos, ◌+ℤ◌, ◌-ℤ◌, ◌&&◌, Option, None, Some}
use Rattle.vd_clight.specs.declared.syntax.BinOp.{BinOp}
use Rattle.vd_clight.specs.declared.syntax.BinOp.TheVariants as op
use Rattle.vd_clight.specs.declared.typed.Kind.{Kind}
use Rattle.vd_clight.specs.declared.typed.Kind.TheVariants.{Signed}
use Rattle.vd_check.specs.declared.value.Evaluated.{Evaluated}
use Rattle.vd_check.specs.Value.{Value, is_proved, is_signed, wrapped}

abbrev pub evaluated : Value → Evaluated
evaluated v = record { number = v.number; proved = is_proved v }

-- the result of an operation on these two
abbrev pub operated : Evaluated → Evaluated → ℤ → Evaluated
operated a b z = record { number = wrapped z; proved = (a.proved && b.proved) && (is_signed (pos a.number) && (is_signed (pos b.number) && is_signed z)) }

abbrev pub evaluated_binary : BinOp → Kind → Option Evaluated → Option Evaluated → Option Evaluated
evaluated_binary op.Add Signed (Some a) (Some b) = Some (operated a b (pos a.number +ℤ pos b.number))
evaluated_binary op.Sub Signed (Some a) (Some b) = Some (operated a b (pos a.number -ℤ pos b.number))
evaluated_binary _ _ _ _ = None
