-- Closed equations compute.
use Rattle.std.proofs.Common.{refl}
use Rattle.vd_terms.specs.OperationLaws.{DivisionRoundsTowardZero, ShiftsEndAt32, BitsAreOfWords, ComparisonsAreFlags}

pub division_rounds_toward_zero : DivisionRoundsTowardZero
division_rounds_toward_zero = record {
  quotient_of_positive = refl;
  quotient_of_negative = refl;
  quotient_by_negative = refl;
  quotient_of_both = refl;
  remainder_of_positive = refl;
  remainder_of_negative = refl;
  remainder_by_negative = refl;
  remainder_of_both = refl;
  quotient_by_zero = refl;
  remainder_by_zero = refl;
}

pub shifts_end_at_32 : ShiftsEndAt32
shifts_end_at_32 = record {
  left_31 = refl;
  left_32 = refl;
  left_below = refl;
  left_of_negative = refl;
  left_far = refl;
  right_31 = refl;
  right_32 = refl;
  right_below = refl;
  right_of_negative = refl;
}

pub bits_are_of_words : BitsAreOfWords
bits_are_of_words = record { and_of_negative = refl; and_of_large = refl; or_of_negative = refl; xor_of_negative = refl }

pub comparisons_are_flags : ComparisonsAreFlags
comparisons_are_flags = record { less = refl; not_less = refl; at_most = refl; not_at_most = refl; equal = refl; not_equal = refl }
