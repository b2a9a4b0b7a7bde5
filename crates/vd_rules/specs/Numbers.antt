-- Numbers of the logic: integers of which the magnitude is below 2 ^ 127.
use Rattle.std.specs.Prelude.{None, Option, Some, cond, nat_lt, unsigned_abs, ℤ, ◌^◌}

-- an integer, where its magnitude is below 2 ^ 127
abbrev pub small : ℤ → Option ℤ
small z = cond (nat_lt (unsigned_abs z) (2 ^ 127)) (Some z) None
