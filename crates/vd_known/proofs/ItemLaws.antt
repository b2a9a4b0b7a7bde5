-- Items of a list: whether one passes a test, and what is so of none of the first.
use Rattle.std.proofs.Common.{◌≡◌, ℕ, zero, suc, ◌+◌, ◌<◌, ◌≤◌, Bool, true, ◌||◌, List, [], ◌∷◌, length, map, Some, inl, inr, refl, ap, sym, ◌∙◌, subst, arith}
use Rattle.std.proofs.lemmas.Bool.{cases_lt, or_cases, or_left, or_right}
use Rattle.std.proofs.lemmas.Option.{same_Some, slice_get_within}
use Rattle.std.specs.List.{Contains, slice_get, list_any}

module _ {A : Type 0} where
  pub contains_at : (xs : List A) (i : ℕ) (x : A) → slice_get xs i ≡ Some x → Contains xs x
  contains_at [] i x e = cc
  contains_at (y ∷ ys) zero x e = (0, omega arith, same_Some y x e)
  contains_at (y ∷ ys) (suc i) x e = let r = contains_at ys i x e in (suc r.0, (let w = r.1 in omega (arith, w)), r.2)

  -- ---- tests

  pub any_at : (p : A → Bool) (xs : List A) → list_any p xs ≡ true → (m : ℕ) × (y : A) × (slice_get xs m ≡ Some y) × (p y ≡ true)
  any_at p [] e = cc
  any_at p (x ∷ xs) e = elim (or_cases (p x) (list_any p xs) e) [ inl h ↦ (0, x, refl, h) | inr h ↦ (let r = any_at p xs h in (suc r.0, r.1, r.2, r.3)) ]

  pub at_any : (p : A → Bool) (xs : List A) (m : ℕ) (y : A) → slice_get xs m ≡ Some y → p y ≡ true → list_any p xs ≡ true
  at_any p [] m y at e = cc
  at_any p (x ∷ xs) zero y at e = or_left (p x) (list_any p xs) (ap p (same_Some x y at) ∙ e)
  at_any p (x ∷ xs) (suc m) y at e = or_right (p x) (list_any p xs) (at_any p xs m y at e)

  pub any_map : {B : Type 0} (p : B → Bool) (f : A → B) (xs : List A) → list_any p (map f xs) ≡ list_any (λ x. p (f x)) xs
  any_map p f [] = refl
  any_map p f (x ∷ xs) = ap (λ t. p (f x) || t) (any_map p f xs)

  -- ---- none of the first

  -- It is so of none of the first n items.
  abbrev pub NoneOf : (A → Type 0) → List A → ℕ → Type 0
  NoneOf G xs n = (k : ℕ) (x : A) → k < n → slice_get xs k ≡ Some x → G x → ⊥

  pub none_start : (G : A → Type 0) (xs : List A) → NoneOf G xs 0
  none_start G xs k x below at g = absurd (omega (arith, below))

  pub none_next : (G : A → Type 0) (xs : List A) (n : ℕ) (x : A) → slice_get xs n ≡ Some x → NoneOf G xs n → (G x → ⊥) → NoneOf G xs (n + 1)
  none_next G xs n x at before not k y within stands g = elim (cases_lt k n) [
    | inl less ↦ before k y less stands g
    | inr more ↦ (let e : k ≡ n = omega (arith, within, more) in not (subst G (same_Some y x (sym stands ∙ (ap (slice_get xs) e ∙ at))) g))
  ]

  pub none_end : (G : A → Type 0) (xs : List A) (n : ℕ) → length xs ≤ n → NoneOf G xs n → (k : ℕ) (x : A) → slice_get xs k ≡ Some x → G x → ⊥
  none_end G xs n past none k x at g = let w = slice_get_within xs k x at in none k x (omega (arith, w, past)) at g
