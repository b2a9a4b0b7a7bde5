-- The header lines of sections, one more.
use Rattle.std.proofs.Common.{◌≡◌, ℕ, ◌+◌, ◌<◌, Bool, true, false, cond, List, [], ◌∷◌, ◌++◌, length, map, take, get_or, refl, ap, sym, ◌∙◌, subst, append_assoc}
use Rattle.std.proofs.lemmas.List.{take_more}
use Rattle.std.specs.List.{filter}
use Rattle.vd_outline.specs.Lines.{joined}

lines_cons : {A : Type 0} (keeps : A → Bool) (line : A → List ℕ) (xs : List A) (x : A)
    → joined (map line (filter keeps (xs ++ x ∷ []))) ≡ cond (keeps x) (joined (map line (filter keeps xs)) ++ (line x ++ 10 ∷ [])) (joined (map line (filter keeps xs)))
lines_cons keeps line [] x = go (keeps x) where
  go : (b : Bool) → joined (map line (cond b (x ∷ []) [])) ≡ cond b (line x ++ 10 ∷ []) []
  go true = refl
  go false = refl
lines_cons keeps line (y ∷ xs) x = go (keeps y) (keeps x) (lines_cons keeps line xs x) where
  go : (a b : Bool) → joined (map line (filter keeps (xs ++ x ∷ []))) ≡ cond b (joined (map line (filter keeps xs)) ++ (line x ++ 10 ∷ [])) (joined (map line (filter keeps xs)))
      → joined (map line (cond a (y ∷ filter keeps (xs ++ x ∷ [])) (filter keeps (xs ++ x ∷ [])))) ≡ cond b (joined (map line (cond a (y ∷ filter keeps xs) (filter keeps xs))) ++ (line x ++ 10 ∷ [])) (joined (map line (cond a (y ∷ filter keeps xs) (filter keeps xs))))
  go false b e = e
  go true true e = ap (λ r. line y ++ 10 ∷ r) e ∙ sym (append_assoc (line y) (10 ∷ joined (map line (filter keeps xs))) (line x ++ 10 ∷ []))
  go true false e = ap (λ r. line y ++ 10 ∷ r) e

lines_next : {A : Type 0} (keeps : A → Bool) (line : A → List ℕ) (xs : List A) (n : ℕ) (x : A) → n < length xs → x ≡ get_or xs n x
    → joined (map line (filter keeps (take (n + 1) xs))) ≡ cond (keeps x) (joined (map line (filter keeps (take n xs))) ++ (line x ++ 10 ∷ [])) (joined (map line (filter keeps (take n xs))))
lines_next keeps line xs n x below at = ap (λ ys. joined (map line (filter keeps ys))) (take_more xs n x below ∙ ap (λ y. take n xs ++ y ∷ []) (sym at)) ∙ lines_cons keeps line (take n xs) x

-- with its line, where it is kept
pub lines_kept : {A : Type 0} (keeps : A → Bool) (line : A → List ℕ) (xs ys : List A) (n : ℕ) (x : A) (so_far new : List ℕ) → xs ≡ ys → n < length xs → x ≡ get_or xs n x → keeps x ≡ true
    → so_far ≡ joined (map line (filter keeps (take n ys))) → new ≡ so_far ++ (line x ++ 10 ∷ []) → new ≡ joined (map line (filter keeps (take (n + 1) ys)))
lines_kept keeps line xs ys n x so_far new same below at k e f =
    subst (λ zs. so_far ≡ joined (map line (filter keeps (take n zs))) → new ≡ joined (map line (filter keeps (take (n + 1) zs)))) same
    (λ e. f ∙ (ap (λ s. s ++ (line x ++ 10 ∷ [])) e ∙ sym (lines_next keeps line xs n x below at ∙ ap (λ b. cond b (joined (map line (filter keeps (take n xs))) ++ (line x ++ 10 ∷ [])) (joined (map line (filter keeps (take n xs))))) k))) e

-- as before, where it is left
pub lines_left : {A : Type 0} (keeps : A → Bool) (line : A → List ℕ) (xs ys : List A) (n : ℕ) (x : A) (so_far new : List ℕ) → xs ≡ ys → n < length xs → x ≡ get_or xs n x → keeps x ≡ false
    → so_far ≡ joined (map line (filter keeps (take n ys))) → new ≡ so_far → new ≡ joined (map line (filter keeps (take (n + 1) ys)))
lines_left keeps line xs ys n x so_far new same below at k e f =
    subst (λ zs. so_far ≡ joined (map line (filter keeps (take n zs))) → new ≡ joined (map line (filter keeps (take (n + 1) zs)))) same
    (λ e. f ∙ (e ∙ sym (lines_next keeps line xs n x below at ∙ ap (λ b. cond b (joined (map line (filter keeps (take n xs))) ++ (line x ++ 10 ∷ [])) (joined (map line (filter keeps (take n xs))))) k))) e
