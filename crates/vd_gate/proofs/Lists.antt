-- Prefixes, places and elements of lists.
use Rattle.std.proofs.Common.{◌≡◌, ◌≢◌, ℕ, zero, suc, ◌<◌, ◌≤◌, ◌⊎◌, List, [], ◌∷◌, ◌++◌, map, length, set, refl, ap, sym, ◌∙◌, subst, inl, inr, ⊎_elim, arith, append_assoc, append-nil}
use Rattle.std.specs.List.{Contains}
use mathlib.Core.Option as core
use mathlib.Core.List.{IsPrefix}
use lib.ListN.{get_elem?}
use Rattle.atomic_table.proofs.Lists.{at_set}

module _ {A : Type 0} where
  pub prefix_self : (xs : List A) → IsPrefix xs xs
  prefix_self xs = ([], append-nil xs)

  pub prefix_push : (xs ys : List A) (y : A) → IsPrefix xs ys → IsPrefix xs (ys ++ y ∷ [])
  prefix_push xs ys y p = (p.0 ++ y ∷ [], sym (append_assoc xs p.0 (y ∷ [])) ∙ ap (λ l. l ++ y ∷ []) p.1)

  pub prefix_trans : (xs ys zs : List A) → IsPrefix xs ys → IsPrefix ys zs → IsPrefix xs zs
  prefix_trans xs ys zs p q = (p.0 ++ q.0, sym (append_assoc xs p.0 q.0) ∙ (ap (λ w. w ++ q.0) p.1 ∙ q.1))

  -- of two prefixes of one list the shorter is a prefix of the longer
  pub prefix_shorter : (xs ys zs : List A) → IsPrefix xs zs → IsPrefix ys zs → length xs ≤ length ys → IsPrefix xs ys
  prefix_shorter [] ys zs p q le = (ys, refl)
  prefix_shorter (x ∷ xs) [] zs p q le = absurd (omega arith)
  prefix_shorter (x ∷ xs) (y ∷ ys) [] p q le = absurd (cc (p.1))
  prefix_shorter (x ∷ xs) (y ∷ ys) (z ∷ zs) p q le =
      let heads : x ≡ y = cc (p.1, q.1) in
      let rest = prefix_shorter xs ys zs (p.0, cc (p.1)) (q.0, cc (q.1)) (omega arith) in
      (rest.0, cc (heads, rest.1))

  -- what stands in a list with one element more
  pub at_pushed : (l : List A) (a b : A) (j : ℕ) → get_elem? (l ++ a ∷ []) j ≡ core.some b → (get_elem? l j ≡ core.some b) ⊎ ((j ≡ length l) × (a ≡ b))
  at_pushed [] a b zero e = inr (refl, core.some-injective a b e)
  at_pushed [] a b (suc j) e = absurd (core.some-ne-none b (sym e))
  at_pushed (x ∷ xs) a b zero e = inl e
  at_pushed (x ∷ xs) a b (suc j) e = ⊎_elim (λ t. inl t) (λ t. inr (ap suc t.0, t.1)) (at_pushed xs a b j e)

  pub place_below_length : (l : List A) (j : ℕ) (b : A) → get_elem? l j ≡ core.some b → j < length l
  place_below_length [] j b e = absurd (core.some-ne-none b (sym e))
  place_below_length (x ∷ xs) zero b e = omega arith
  place_below_length (x ∷ xs) (suc j) b e = let h = place_below_length xs j b e in omega arith

  -- a fact of each place stays where the place id is set to w
  pub each_after_set : (K : ℕ → A → Type 0) (l : List A) (id : ℕ) (w : A) → K id w → ((j : ℕ) (u : A) → j ≢ id → get_elem? l j ≡ core.some u → K j u)
      → (j : ℕ) (u : A) → get_elem? (set l id w) j ≡ core.some u → K j u
  each_after_set K l id w mine others j u e = ⊎_elim (λ (t : (j ≡ id) × (w ≡ u)). subst (λ (x : ℕ × A). K x.0 x.1) (λ i. (sym t.0 i, t.1 i)) mine)
      (λ (t : (j ≢ id) × (get_elem? l j ≡ core.some u)). others j u t.0 t.1) (at_set l id j w u e)

  -- the one place of a list is set
  pub set_only : (l : List A) (a : A) → length l ≡ 1 → set l 0 a ≡ a ∷ []
  set_only [] a e = absurd (omega arith)
  set_only (x ∷ []) a e = refl
  set_only (x ∷ y ∷ ys) a e = absurd (omega arith)

  -- two elements at one place
  pub same_at_place : (l : List A) (i j : ℕ) (a b : A) → i ≡ j → get_elem? l i ≡ core.some a → get_elem? l j ≡ core.some b → a ≡ b
  same_at_place l i j a b e p q = core.some-injective a b (sym p ∙ (ap (get_elem? l) e ∙ q))

  -- the elements of a list by its first and the rest
  pub contains_cons : (x y : A) (xs : List A) → Contains (x ∷ xs) y → (x ≡ y) ⊎ Contains xs y
  contains_cons x y xs (zero, below, is) = inl is
  contains_cons x y xs (suc k, below, is) = inr (k, omega arith, is)

  pub contains_rest : (x y : A) (xs : List A) → Contains xs y → Contains (x ∷ xs) y
  contains_rest x y xs (k, below, is) = (suc k, omega arith, is)

  pub contains_first : (x : A) (xs : List A) → Contains (x ∷ xs) x
  contains_first x xs = (0, omega arith, refl)

  pub contains_none : (y : A) → Contains [] y → ⊥
  contains_none y (k, below, is) = omega arith

module _ {A B : Type 0} where
  pub contains_map : (f : A → B) (xs : List A) (y : B) → Contains (map f xs) y → (x : A) × Contains xs x × (f x ≡ y)
  contains_map f [] y c = absurd (contains_none y c)
  contains_map f (x ∷ xs) y c = ⊎_elim (λ (e : f x ≡ y). (x, contains_first x xs, e))
      (λ (t : Contains (map f xs) y). let r = contains_map f xs y t in (r.0, contains_rest x r.0 xs r.1, r.2)) (contains_cons (f x) y (map f xs) c)
