-- A number that is too large with one more digit stays so.
use Rattle.std.proofs.Common.{ℕ, ◌+◌, ◌-◌, ◌*◌, ◌<◌, ◌≤◌, ◌≡◌, Bool, true, false, List, [], ◌∷◌, length, get_or, Some, None, refl, arith}
use Rattle.std.specs.Prelude.{nat_le, if◌then◌else◌}
use Rattle.std.proofs.lemmas.Bool.{leb-false, lt-leb}
use Rattle.vd_tokens.specs.Bytes.{is_digit}
use Rattle.vd_tokens.specs.Number.{number_from, number_of, at_most}

grows : (n : ℕ) (bs : List ℕ) → n ≤ number_from n bs
grows n [] = omega arith
grows n (b ∷ bs) = by_test (is_digit b) (grows (10 * n + (b - 48)) bs)
  where
    by_test : (t : Bool) → 10 * n + (b - 48) ≤ number_from (10 * n + (b - 48)) bs → n ≤ (if t then number_from (10 * n + (b - 48)) bs else n)
    by_test true h = omega arith
    by_test false h = omega arith

over : (most n : ℕ) → at_most most n ≡ None → most < n
over most n h = by_test (nat_le n most) refl
  where
    by_test : (t : Bool) → nat_le n most ≡ t → most < n
    by_test true e = let f : at_most most n ≡ Some n = rw e refl in cc
    by_test false e = leb-false n most e

none_over : (most n : ℕ) → most < n → at_most most n ≡ None
none_over most n h = rw (lt-leb n most h) refl

pub exceeds : (most n : ℕ) (left spelling : List ℕ) → 0 < length left → is_digit (get_or left 0 0) ≡ true → number_from n left ≡ number_of spelling → at_most most (10 * n + (get_or left 0 0 - 48)) ≡ None
    → at_most most (number_of spelling) ≡ None
exceeds most n [] spelling l d e h = absurd (omega arith)
exceeds most n (b ∷ bs) spelling l d e h =
    let next = 10 * n + (b - 48) in
    let f : number_from n (b ∷ bs) ≡ number_from next bs = rw d refl in
    none_over most (number_of spelling) (omega (arith, over most next h, grows next bs, e, f))
