-- Fronts of lists.
use Rattle.std.proofs.Common.{◌≡◌, List, [], ◌∷◌, ◌++◌, refl, sym}

-- how two fronts of one list lie
pub data Fronts {A : Type 0} (xs us ys ws : List A) : Type 0 where
  same : xs ≡ ys → us ≡ ws → Fronts xs us ys ws
  first_ends : (t : A) (more : List A) → us ≡ t ∷ (more ++ ws) → ys ≡ xs ++ t ∷ more → Fronts xs us ys ws
  second_ends : (t : A) (more : List A) → ws ≡ t ∷ (more ++ us) → xs ≡ ys ++ t ∷ more → Fronts xs us ys ws

fronts_behind : {A : Type 0} {xs us ys ws : List A} (x y : A) → x ≡ y → Fronts xs us ys ws → Fronts (x ∷ xs) us (y ∷ ys) ws
fronts_behind x y e (same h g) = same (cc) g
fronts_behind x y e (first_ends t more h g) = first_ends t more h (cc)
fronts_behind x y e (second_ends t more h g) = second_ends t more h (cc)

pub two_fronts : {A : Type 0} (xs us ys ws : List A) → xs ++ us ≡ ys ++ ws → Fronts xs us ys ws
two_fronts [] us [] ws h = same refl h
two_fronts [] us (y ∷ ys) ws h = first_ends y ys h refl
two_fronts (x ∷ xs) us [] ws h = second_ends x xs (sym h) refl
two_fronts (x ∷ xs) us (y ∷ ys) ws h = let e : xs ++ us ≡ ys ++ ws = cc in fronts_behind x y (cc) (two_fronts xs us ys ws e)

-- A list with one more at its end is cut behind that one, or before it.
pub data SnocCut {A : Type 0} (xs : List A) (x : A) (front rest : List A) : Type 0 where
  behind : front ≡ xs ++ x ∷ [] → SnocCut xs x front rest
  before : (others : List A) → xs ≡ front ++ others → SnocCut xs x front rest

snoc_behind : {A : Type 0} {xs front rest : List A} {x : A} (y z : A) → y ≡ z → SnocCut xs x front rest → SnocCut (y ∷ xs) x (z ∷ front) rest
snoc_behind y z e (behind h) = behind (cc)
snoc_behind y z e (before others h) = before others (cc)

pub snoc_cut : {A : Type 0} (xs : List A) (x : A) (front rest : List A) → xs ++ x ∷ [] ≡ front ++ rest → SnocCut xs x front rest
snoc_cut xs x [] rest h = before xs refl
snoc_cut [] x (y ∷ []) rest h = let e : x ≡ y = cc in behind (cc)
snoc_cut [] x (y ∷ z ∷ front) rest h = cc
snoc_cut (w ∷ xs) x (y ∷ front) rest h = let e : xs ++ x ∷ [] ≡ front ++ rest = cc in snoc_behind w y (cc) (snoc_cut xs x front rest e)
