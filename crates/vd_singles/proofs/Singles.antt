-- What a program has just one of, by the table of its names.
use Rattle.std.proofs.Common.{◌≡◌, ℕ, suc, ◌+◌, ◌==◌, Bool, true, false, not, ◌&&◌, ◌||◌, cond, List, [], ◌∷◌, ◌++◌, length, map, take, get_or, ◌<◌, ◌≤◌, None, Some, refl, ap, ap₂, sym, ◌∙◌, subst, arith}
use Rattle.std.proofs.lemmas.Bool.Decides.{nat_tests}
use Rattle.std.proofs.lemmas.List.{map-append, take_more, take_all}
use Rattle.std.proofs.lemmas.List.Sums.{sum_by-cons}
use Rattle.std.specs.List.{filter, count_by, list_all}
use Rattle.std.specs.Option.{is_some}
use Rattle.std.specs.Str.{bytes_eq}
use Rattle.vd_singles.specs.declared.table.Table.{Table}
use Rattle.vd_singles.specs.Table.{Bytes, IsTable, only, single}

module _ {X : Type 0} (key : X → Bytes) (number : X → ℕ) (name : Bytes) where
  -- the pairs of a name
  abbrev pub pairs : List X → List (Bytes × ℕ)
  pairs xs = filter (λ p. bytes_eq p.0 name) (map (λ x. (key x, number x)) xs)

  counted : (xs : List X) → count_by (λ x. bytes_eq (key x) name) xs ≡ length (pairs xs)
  counted [] = refl
  counted (x ∷ xs) = sum_by-cons (λ y. cond (bytes_eq (key y) name) 1 0) x xs ∙ by (bytes_eq (key x) name) (counted xs) where
    by : (b : Bool) → count_by (λ y. bytes_eq (key y) name) xs ≡ length (pairs xs) → cond b 1 0 + count_by (λ y. bytes_eq (key y) name) xs ≡ length (cond b ((key x, number x) ∷ pairs xs) (pairs xs))
    by true e = omega (arith, e)
    by false e = omega (arith, e)

  numbered : (n : ℕ) (xs : List X) → list_all (λ x. not (bytes_eq (key x) name) || number x == n) xs ≡ list_all (λ p. p.1 == n) (pairs xs)
  numbered n [] = refl
  numbered n (x ∷ xs) = by (bytes_eq (key x) name) (numbered n xs) where
    by : (b : Bool) → list_all (λ y. not (bytes_eq (key y) name) || number y == n) xs ≡ list_all (λ p. p.1 == n) (pairs xs) → (not b || number x == n) && list_all (λ y. not (bytes_eq (key y) name) || number y == n) xs ≡ list_all (λ p. p.1 == n) (cond b ((key x, number x) ∷ pairs xs) (pairs xs))
    by true e = ap (λ t. number x == n && t) e
    by false e = e

  -- there is one, and it has this number
  abbrev pub has_number : List X → ℕ → Bool
  has_number xs n = count_by (λ x. bytes_eq (key x) name) xs == 1 && list_all (λ x. not (bytes_eq (key x) name) || number x == n) xs

  by_pairs : (xs : List X) (n : ℕ) → has_number xs n ≡ (length (pairs xs) == 1 && list_all (λ p. p.1 == n) (pairs xs))
  by_pairs xs n = ap₂ (λ c t. c == 1 && t) (counted xs) (numbered n xs)

  and_true : (b : Bool) → b ≡ (true && (b && true))
  and_true true = refl
  and_true false = refl

  many : (ps : List (Bytes × ℕ)) → false ≡ (suc (suc (length ps)) == 1)
  many ps = grind (arith, nat_tests)

  some_known : (ps : List (Bytes × ℕ)) (k n : ℕ) → Some k ≡ only ps → (k == n) ≡ (length ps == 1 && list_all (λ p. p.1 == n) ps)
  some_known [] k n e = absurd (cc)
  some_known (p ∷ []) k n e = (let same : k ≡ p.1 = cc in ap (λ m. m == n) same ∙ and_true (p.1 == n))
  some_known (p ∷ q ∷ ps) k n e = absurd (cc)

  none_known : (ps : List (Bytes × ℕ)) (n : ℕ) → None ≡ only ps → false ≡ (length ps == 1 && list_all (λ p. p.1 == n) ps)
  none_known [] n e = refl
  none_known (p ∷ []) n e = absurd (cc)
  none_known (p ∷ q ∷ ps) n e = ap (λ b. b && list_all (λ r. r.1 == n) (p ∷ q ∷ ps)) (many ps)

  pub one_has : (xs : List X) (k n : ℕ) → Some k ≡ single name (map (λ x. (key x, number x)) xs) → (k == n) ≡ has_number xs n
  one_has xs k n e = some_known (pairs xs) k n e ∙ sym (by_pairs xs n)

  pub none_has : (xs : List X) (n : ℕ) → None ≡ single name (map (λ x. (key x, number x)) xs) → false ≡ has_number xs n
  none_has xs n e = none_known (pairs xs) n e ∙ sym (by_pairs xs n)

  is_one : (ps : List (Bytes × ℕ)) → is_some (only ps) ≡ (length ps == 1)
  is_one [] = refl
  is_one (p ∷ []) = refl
  is_one (p ∷ q ∷ ps) = many ps

  -- there is one
  pub there_is : (xs : List X) → is_some (single name (map (λ x. (key x, number x)) xs)) ≡ (count_by (λ x. bytes_eq (key x) name) xs == 1)
  there_is xs = is_one (pairs xs) ∙ ap (λ c. c == 1) (sym (counted xs))

-- ---- one more

pub table_more : {X : Type 0} (f : X → Bytes × ℕ) (xs : List X) (i : ℕ) (x : X) (t : Table) → i < length xs → x ≡ get_or xs i x → IsTable t (map f (take i xs) ++ f x ∷ []) → IsTable t (map f (take (i + 1) xs))
table_more f xs i x t within at h =
    subst (IsTable t) (sym (map-append f (take i xs) (x ∷ [])) ∙ ap (map f) (sym (take_more xs i x within ∙ ap (λ y. take i xs ++ y ∷ []) (sym at)))) h

pub table_all : {X : Type 0} (f : X → Bytes × ℕ) (xs : List X) (i : ℕ) (t : Table) → length xs ≤ i → IsTable t (map f (take i xs)) → IsTable t (map f xs)
table_all f xs i t past h = subst (λ ys. IsTable t (map f ys)) (take_all i xs past) h
