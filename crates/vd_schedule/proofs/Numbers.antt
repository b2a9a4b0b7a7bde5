-- Numbers without sign and leading zero.
use Rattle.std.proofs.Common.{◌≡◌, ℕ, zero, suc, ◌^◌, ◌<◌, ◌≤◌, List, [], ◌∷◌, length, get_or, Result, Ok, Err, MatchOption, decimal, refl, ap, sym, ◌∙◌, subst, arith, inl, inr}
use Rattle.std.specs.Result.{result_ok}
use Rattle.std.specs.Str.{IsUtf8}
use Rattle.std.specs.Str.Parse.{ParsesUnsigned, IsNumeral, without_leading_plus, digits_value}
use Rattle.std.proofs.lemmas.Bool.Decides.{eqb_tells}
use Rattle.std.proofs.lemmas.Fmt.{decimal_digit, first_decimal, parse-decimal, decimal-digits_value, IsAscii-decimal}
use Rattle.std.proofs.lemmas.Str.{IsUtf8-from_ascii}
use Rattle.std.proofs.lemmas.Str.Parse.{numerals_by_value, tells_digits, without_leading_plus_none, without_leading_plus_plus}

-- a number of two digits or more begins with neither a sign nor a zero
pub begins_number : (bs : List ℕ) (n : ℕ) → n < 2 ^ 32 → bs ≡ decimal n → 1 < length bs → get_or bs 0 0 ≤ 48 → ⊥
begins_number bs zero h e long low = let one : length bs ≡ 1 = ap length (e ∙ decimal_digit 0 (omega arith)) in omega arith
begins_number bs (suc n) h e long low =
    let first : 48 < get_or (decimal (suc n)) 0 0 = first_decimal (suc n) (omega arith) (omega arith) in
    let same : get_or bs 0 0 ≡ get_or (decimal (suc n)) 0 0 = ap (λ x. get_or x 0 0) e in
    omega arith

-- what more digits follow is neither a sign nor a zero
abbrev pub BeginsNumber : List ℕ → Type 0
BeginsNumber bs = 1 < length bs → (get_or bs 0 0 ≡ 48 → ⊥) × (get_or bs 0 0 ≡ 43 → ⊥)

-- a numeral that begins so is what is written of its value
numeral : (bs : List ℕ) → BeginsNumber bs → IsNumeral 10 (without_leading_plus bs) → digits_value 10 (without_leading_plus bs) < 2 ^ 32 → bs ≡ decimal (digits_value 10 (without_leading_plus bs))
numeral [] begins is small = absurd (omega (arith, is.0))
numeral (c ∷ []) begins is small = elim (eqb_tells c 43) [
  | inl plus ↦ absurd (omega (arith, subst (IsNumeral 10) (without_leading_plus_plus (c ∷ []) plus.1) is))
  | inr other ↦
      let same : without_leading_plus (c ∷ []) ≡ c ∷ [] = without_leading_plus_none (c ∷ []) other.1 in
      let own : IsNumeral 10 (c ∷ []) = subst (IsNumeral 10) same is in
      let value : digits_value 10 (without_leading_plus (c ∷ [])) ≡ digits_value 10 (c ∷ []) = ap (digits_value 10) same in
      sym (ap decimal value ∙ decimal-digits_value (numerals_by_value _ tells_digits) (c ∷ []) own.1 own.0 (λ zero. refl) (omega arith))
]
numeral (c ∷ d ∷ cs) begins is small =
    let at = begins (omega arith) in
    let same : without_leading_plus (c ∷ d ∷ cs) ≡ c ∷ d ∷ cs = without_leading_plus_none (c ∷ d ∷ cs) at.1 in
    let own : IsNumeral 10 (c ∷ d ∷ cs) = subst (IsNumeral 10) same is in
    let value : digits_value 10 (without_leading_plus (c ∷ d ∷ cs)) ≡ digits_value 10 (c ∷ d ∷ cs) = ap (digits_value 10) same in
    sym (ap decimal value ∙ decimal-digits_value (numerals_by_value _ tells_digits) (c ∷ d ∷ cs) own.1 own.0 (λ zero. absurd (at.0 zero)) (omega arith))

-- what is parsed is the number
pub parsed : {E : Type 0} (bs : List ℕ) (r : Result ℕ E) → BeginsNumber bs → ParsesUnsigned 32 10 bs r → MatchOption (result_ok r) ((n : ℕ) → n < 2 ^ 32 → bs ≡ decimal n → ⊥) (λ n. bs ≡ decimal n)
parsed bs (Ok n) begins is = numeral bs begins is.0.0 is.0.1 ∙ ap decimal (sym is.1)
parsed bs (Err fault) begins is = λ n small e. let no : Err fault ≡ Ok n = parse-decimal 32 n bs (Err fault) small (omega arith) e is in cc

-- a number is a text
pub number_is_text : (bs : List ℕ) (n : ℕ) → n < 2 ^ 32 → bs ≡ decimal n → IsUtf8 bs
number_is_text bs n small e = subst IsUtf8 (sym e) (IsUtf8-from_ascii (decimal n) (IsAscii-decimal n (omega arith)))
