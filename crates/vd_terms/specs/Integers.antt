-- The operations of integers. They are total: where a quotient or a shift has no value of its own it is 0. The rules ask for what
-- they need, and never for a value that only this totality gives.
use Rattle.std.specs.Prelude.{ℕ, ℤ, pos, negsuc, ◌^◌, ◌-ℤ◌, ◌*ℤ◌, Bool, true, false, ◌&&◌, int_lt, int_le, int_div, bit_and, bit_or, bit_xor}
use Rattle.std.specs.Ordering.{int_eq}
use Rattle.std.specs.Int.{int_div_euclid}
use Rattle.vd_mem.specs.Word.{wrapped}

-- 1 where something holds, else 0
abbrev pub flag : Bool → ℤ
flag true = pos 1
flag false = pos 0

-- the number, or 0 below it
abbrev pub natural : ℤ → ℕ
natural (pos n) = n
natural (negsuc n) = 0

abbrev pub unless_zero : Bool → ℤ → ℤ
unless_zero true z = pos 0
unless_zero false z = z

-- the quotient, rounded toward 0; by 0 it is 0
abbrev pub quotient : ℤ → ℤ → ℤ
quotient a b = unless_zero (int_eq b (pos 0)) (int_div a b)

-- what such a quotient leaves, with the sign of a; by 0 it is 0
abbrev pub remainder : ℤ → ℤ → ℤ
remainder a b = unless_zero (int_eq b (pos 0)) (a -ℤ b *ℤ quotient a b)

-- a count of places by which a word may be shifted
abbrev pub is_shift : ℤ → Bool
is_shift b = int_le (pos 0) b && int_le b (pos 31)

abbrev pub times_power : Bool → ℤ → ℕ → ℤ
times_power true a n = a *ℤ pos (2 ^ n)
times_power false a n = pos 0

abbrev pub over_power : Bool → ℤ → ℕ → ℤ
over_power true a n = int_div_euclid a (pos (2 ^ n))
over_power false a n = pos 0

-- a times 2 ^ b, with no bound on the result
abbrev pub shifted_left : ℤ → ℤ → ℤ
shifted_left a b = times_power (is_shift b) a (natural b)

-- a over 2 ^ b, rounded down
abbrev pub shifted_right : ℤ → ℤ → ℤ
shifted_right a b = over_power (is_shift b) a (natural b)

-- bit by bit, of the integers modulo 2 ^ 32
abbrev pub bits_and : ℤ → ℤ → ℤ
bits_and a b = pos (bit_and (wrapped a) (wrapped b))

abbrev pub bits_or : ℤ → ℤ → ℤ
bits_or a b = pos (bit_or (wrapped a) (wrapped b))

abbrev pub bits_xor : ℤ → ℤ → ℤ
bits_xor a b = pos (bit_xor (wrapped a) (wrapped b))

abbrev pub is_less : ℤ → ℤ → ℤ
is_less a b = flag (int_lt a b)

abbrev pub is_at_most : ℤ → ℤ → ℤ
is_at_most a b = flag (int_le a b)

abbrev pub is_equal : ℤ → ℤ → ℤ
is_equal a b = flag (int_eq a b)
