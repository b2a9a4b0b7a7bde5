-- Operations of integers at their edges, as closed equations that compute.
use Rattle.std.specs.Prelude.{◌≡◌, pos, negsuc}
use Rattle.vd_terms.specs.Integers.{quotient, remainder, shifted_left, shifted_right, bits_and, bits_or, bits_xor, is_less, is_at_most, is_equal}

-- quotients round toward 0, and what they leave has the sign of the dividend: 7 = 2 * 3 + 1, -7 = 2 * -3 - 1
pub record DivisionRoundsTowardZero : Type 0 where
  pub quotient_of_positive : quotient (pos 7) (pos 2) ≡ pos 3
  pub quotient_of_negative : quotient (negsuc 6) (pos 2) ≡ negsuc 2
  pub quotient_by_negative : quotient (pos 7) (negsuc 1) ≡ negsuc 2
  pub quotient_of_both : quotient (negsuc 6) (negsuc 1) ≡ pos 3
  pub remainder_of_positive : remainder (pos 7) (pos 2) ≡ pos 1
  pub remainder_of_negative : remainder (negsuc 6) (pos 2) ≡ negsuc 0
  pub remainder_by_negative : remainder (pos 7) (negsuc 1) ≡ pos 1
  pub remainder_of_both : remainder (negsuc 6) (negsuc 1) ≡ negsuc 0
  pub quotient_by_zero : quotient (negsuc 6) (pos 0) ≡ pos 0
  pub remainder_by_zero : remainder (negsuc 6) (pos 0) ≡ pos 0

-- a shift has a value for a count from 0 to 31; to the left it is not cut off, to the right it is rounded down
pub record ShiftsEndAt32 : Type 0 where
  pub left_31 : shifted_left (pos 3) (pos 31) ≡ pos 6442450944
  pub left_32 : shifted_left (pos 3) (pos 32) ≡ pos 0
  pub left_below : shifted_left (pos 3) (negsuc 0) ≡ pos 0
  pub left_of_negative : shifted_left (negsuc 0) (pos 31) ≡ negsuc 2147483647
  pub left_far : shifted_left (pos 1) (pos 170141183460469231731687303715884105727) ≡ pos 0
  pub right_31 : shifted_right (pos 4294967295) (pos 31) ≡ pos 1
  pub right_32 : shifted_right (pos 4294967295) (pos 32) ≡ pos 0
  pub right_below : shifted_right (pos 4294967295) (negsuc 0) ≡ pos 0
  pub right_of_negative : shifted_right (negsuc 6) (pos 1) ≡ negsuc 3

-- bits are those of the integers modulo 2 ^ 32
pub record BitsAreOfWords : Type 0 where
  pub and_of_negative : bits_and (negsuc 0) (pos 255) ≡ pos 255
  pub and_of_large : bits_and (pos 4294967301) (pos 7) ≡ pos 5
  pub or_of_negative : bits_or (negsuc 0) (pos 0) ≡ pos 4294967295
  pub xor_of_negative : bits_xor (negsuc 0) (pos 1) ≡ pos 4294967294

-- comparisons are 1 or 0
pub record ComparisonsAreFlags : Type 0 where
  pub less : is_less (negsuc 0) (pos 0) ≡ pos 1
  pub not_less : is_less (pos 0) (pos 0) ≡ pos 0
  pub at_most : is_at_most (pos 0) (pos 0) ≡ pos 1
  pub not_at_most : is_at_most (pos 1) (pos 0) ≡ pos 0
  pub equal : is_equal (negsuc 1) (negsuc 1) ≡ pos 1
  pub not_equal : is_equal (negsuc 1) (pos 2) ≡ pos 0
