-- Steps of loops over words.
use Rattle.std.proofs.Common.{suc, zero, ◌≡◌, ℕ, ◌+◌, ◌<◌, Bool, true, false, ◌&&◌, List, [], ◌∷◌, ◌++◌, map, length, get_or, take, drop, refl, ap, sym, drop-cons, add-one, arith, slice_get, option_map, Some, ◌∙◌}
use Rattle.std.proofs.lemmas.Option.{slice_get-map, slice_get-get_or}
use Rattle.std.specs.List.{list_all}

pub all_step : {X Y : Type 0} (p : Y → Bool) (f : X → Y) (xs : List X) (i : ℕ) (x : X) → i < length xs → x ≡ get_or xs i x
    → list_all p (map f (drop i xs)) ≡ (p (f x) && list_all p (map f (drop (i + 1) xs)))
all_step p f xs i x lt is = rw (drop-cons xs i x, add-one, ← is) refl

pub taken : {X Y : Type 0} (f : X → Y) (xs : List X) (k : ℕ) (x : X) → k < length xs → x ≡ get_or xs k x → take (suc k) (map f xs) ≡ take k (map f xs) ++ f x ∷ []
taken f [] k x lt is = absurd (omega arith)
taken f (y ∷ xs) zero x lt is = ap (λ z. f z ∷ []) (sym is)
taken f (y ∷ xs) (suc k) x lt is = ap (λ zs. f y ∷ zs) (taken f xs k x (omega arith) is)

-- the words before one, that one, and those behind it
pub parted : {X Y : Type 0} (f : X → Y) (xs : List X) (k : ℕ) (x : X) → k < length xs → x ≡ get_or xs k x
    → map f xs ≡ take k (map f xs) ++ f x ∷ drop (suc k) (map f xs)
parted f [] k x lt is = absurd (omega arith)
parted f (y ∷ xs) zero x lt is = ap (λ z. f z ∷ map f xs) (sym is)
parted f (y ∷ xs) (suc k) x lt is = ap (λ zs. f y ∷ zs) (parted f xs k x (omega arith) is)

-- the word at a place
pub got : {X Y : Type 0} (f : X → Y) (xs : List X) (k : ℕ) (x : X) → k < length xs → x ≡ get_or xs k x → slice_get (map f xs) k ≡ Some (f x)
got f xs k x lt is = slice_get-map f xs k ∙ ap (option_map f) (slice_get-get_or xs k x lt ∙ ap Some (sym is))

pub both_left : (a b : Bool) → a && b ≡ true → a ≡ true
both_left true b h = refl
both_left false b h = h

pub both_right : (a b : Bool) → a && b ≡ true → b ≡ true
both_right true b h = h
both_right false b h = cc
