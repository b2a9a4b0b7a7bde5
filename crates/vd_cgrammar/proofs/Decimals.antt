-- The digits of a number are a token that spells it.
use Rattle.std.proofs.Common.{ℕ, zero, suc, ◌+◌, ◌-◌, ◌*◌, ◌^◌, ◌<◌, ◌≤◌, ◌≡◌, Bool, true, false, ◌||◌, List, [], ◌∷◌, ◌++◌, length, get_or, refl, sym, ◌∙◌, ap, subst, arith}
use Rattle.std.specs.Prelude.{◌==◌, decimal}
use Rattle.std.specs.Int.{IsInRange}
use Rattle.std.proofs.lemmas.Bool.{le-leb, ne_eqb}
use Rattle.std.proofs.lemmas.Fmt.{digits_decimal, digits_value-decimal, first_decimal, decimal_nonempty, decimal_digit}
use Rattle.std.proofs.lemmas.Str.Parse.{FoldsDigits, IsDigitsTest, IsNumeralModel, numerals_by_fold}
use Rattle.vd_tokens.specs.Bytes.{is_digit, AllBytes}
use Rattle.vd_tokens.specs.Number.{number_from, number_of, has_suffix}
use Rattle.vd_tokens.specs.Text.{IsDecimal, number, suffixed}
use Rattle.vd_tokens.specs.Shapes.{digit_range}
use Rattle.vd_cgrammar.specs.PrintLaw.{IsNumberText}

digit : (c : ℕ) → IsInRange 48 57 c → is_digit c ≡ true
digit c r = rw (le-leb 48 c r.0, le-leb c 57 r.1) refl

are_digits : IsDigitsTest (AllBytes is_digit)
are_digits = record {
  empty = tt;
  parts = λ c cs h. (digit_range c h.0, h.1);
  more = λ c cs r h. (digit c r, h);
}

one_more : (n c : ℕ) (cs : List ℕ) → IsInRange 48 57 c → number_from n (c ∷ cs) ≡ number_from (n * 10 + (c - 48)) cs
one_more n c cs r =
    let h : 10 * n + (c - 48) ≡ n * 10 + (c - 48) = omega arith in
    rw (digit c r) (ap (λ m. number_from m cs) h)

folds : FoldsDigits number_from
folds = record { empty = λ n. refl; more = one_more }

numerals : IsNumeralModel (AllBytes is_digit) (number_from 0)
numerals = numerals_by_fold (AllBytes is_digit) are_digits number_from folds

digits_of : (n : ℕ) → n < 2 ^ 64 → AllBytes is_digit (decimal n)
digits_of n h = digits_decimal numerals n h

value_of : (n : ℕ) → n < 2 ^ 64 → number_of (decimal n) ≡ n
value_of n h = digits_value-decimal numerals n h

no_zero : (ds : List ℕ) → AllBytes is_digit ds → 0 < length ds → 48 < get_or ds 0 0 → IsDecimal ds
no_zero [] h l f = omega (arith, l)
no_zero (b ∷ []) h l f = h.0
no_zero (b ∷ c ∷ ds) h l f = (h.0, (λ e. omega (arith, e, f)), h.1)

is_decimal : (n : ℕ) → n < 2 ^ 64 → IsDecimal (decimal n)
is_decimal zero h = subst IsDecimal (sym (decimal_digit 0 (omega arith))) refl
is_decimal (suc n) h = no_zero (decimal (suc n)) (digits_of (suc n) h) (decimal_nonempty (suc n) h) (first_decimal (suc n) (omega arith) h)

no_suffix : (ds : List ℕ) → AllBytes is_digit ds → has_suffix ds ≡ false
no_suffix [] h = refl
no_suffix (d ∷ ds) h = let r = digit_range d h.0 in let top : d ≤ 57 = r.1 in rw (ne_eqb d 117 (λ e. omega (arith, e, top))) (no_suffix ds h.1)

or_true : (a : Bool) → (a || true) ≡ true
or_true true = refl
or_true false = refl

suffix_behind : (ds : List ℕ) → has_suffix (ds ++ 117 ∷ []) ≡ true
suffix_behind [] = refl
suffix_behind (d ∷ ds) = rw (suffix_behind ds) (or_true (d == 117))

value_before : (m : ℕ) (ds : List ℕ) → AllBytes is_digit ds → number_from m (ds ++ 117 ∷ []) ≡ number_from m ds
value_before m [] h = refl
value_before m (d ∷ ds) h = rw h.0 (value_before (10 * m + (d - 48)) ds h.1)

pub number_is : (n : ℕ) (unsigned : Bool) → n < 2 ^ 64 → IsNumberText n unsigned
number_is n false h = record { is_token = number (is_decimal n h); value = value_of n h; suffix = no_suffix (decimal n) (digits_of n h) }
number_is n true h = record {
  is_token = suffixed (decimal n) refl refl (is_decimal n h);
  value = value_before 0 (decimal n) (digits_of n h) ∙ value_of n h;
  suffix = suffix_behind (decimal n);
}
