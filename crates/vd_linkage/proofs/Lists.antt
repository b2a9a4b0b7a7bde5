-- Elements of lists that stand one behind another.
use Rattle.std.proofs.Common.{◌≡◌, ◌⊎◌, ℕ, zero, suc, ◌+◌, ◌<◌, Bool, true, false, List, [], ◌∷◌, ◌++◌, length, Some, slice_get, inl, inr, ap, ◌∙◌, arith}

pub some_same : {X : Type 0} (x y : X) → Some x ≡ Some y → x ≡ y
some_same x y e = cc

pub at_front : {X : Type 0} (xs ys : List X) (n : ℕ) (x : X) → slice_get xs n ≡ Some x → slice_get (xs ++ ys) n ≡ Some x
at_front [] ys n x e = absurd (cc)
at_front (z ∷ xs) ys zero x e = e
at_front (z ∷ xs) ys (suc n) x e = at_front xs ys n x e

none_add : (n : ℕ) → 0 + n ≡ n
none_add n = omega arith

suc_add : (a b : ℕ) → suc a + b ≡ suc (a + b)
suc_add a b = omega arith

pub at_back : {X : Type 0} (xs ys : List X) (n : ℕ) → slice_get (xs ++ ys) (length xs + n) ≡ slice_get ys n
at_back [] ys n = ap (slice_get ys) (none_add n)
at_back (z ∷ xs) ys n = ap (slice_get (z ∷ (xs ++ ys))) (suc_add (length xs) n) ∙ at_back xs ys n

-- an element stands in front or behind
pub in_two : {X : Type 0} (xs ys : List X) (n : ℕ) (x : X) → slice_get (xs ++ ys) n ≡ Some x
    → ((n < length xs) × (slice_get xs n ≡ Some x)) ⊎ ((m : ℕ) × (n ≡ length xs + m) × (slice_get ys m ≡ Some x))
in_two [] ys n x e = inr (n, omega arith, e)
in_two (z ∷ xs) ys zero x e = inl (omega arith, e)
in_two (z ∷ xs) ys (suc n) x e = elim (in_two xs ys n x e) [
  | inl p ↦ inl (omega (arith, p.0), p.1)
  | inr p ↦ inr (p.0, omega (arith, p.1), p.2)
]

pub not_two : (b : Bool) → b ≡ true → b ≡ false → ⊥
not_two b p q = cc
