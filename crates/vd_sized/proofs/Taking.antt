-- The first items of lists that are put together.
use Rattle.std.proofs.Common.{◌≡◌, ℕ, zero, suc, ◌+◌, ◌*◌, ◌<◌, ◌≤◌, min, ◌-◌, inl, inr, List, [], ◌∷◌, ◌++◌, length, take, get_or, map, refl, sym, ap, ◌∙◌, arith, append-nil, append_assoc, add-one}
use Rattle.std.specs.List.{repeat}
use Rattle.std.proofs.lemmas.Bool.{cases_lt}
use Rattle.std.proofs.lemmas.List.{map-append, length-append, length-take, take_all, take-append-le, take_more, take-take}

pub take_take_append : {X : Type 0} (m : ℕ) (ys zs : List X) → take m (take m ys ++ zs) ≡ take m (ys ++ zs)
take_take_append zero ys zs = refl
take_take_append (suc m) [] zs = refl
take_take_append (suc m) (y ∷ ys) zs = ap (λ l. y ∷ l) (take_take_append m ys zs)

pub take_append_take : {X : Type 0} (m n : ℕ) (ys zs : List X) → m ≤ n → take m (ys ++ take n zs) ≡ take m (ys ++ zs)
take_append_take zero n ys zs h = refl
take_append_take (suc m) n [] zs h = take-take (suc m) n zs h
take_append_take (suc m) n (y ∷ ys) zs h = ap (λ l. y ∷ l) (take_append_take m n ys zs (omega arith))

-- where there is room, one more is put behind
pub room : {X : Type 0} (m : ℕ) (ys : List X) (x : X) (first : List X) → first ≡ take m ys → length first < m → first ++ x ∷ [] ≡ take m (ys ++ x ∷ [])
room m ys x first e h =
    let few : length ys < m = omega (arith, length-take m ys, ap length e) in
    ap (λ l. l ++ x ∷ []) (e ∙ take_all m ys (omega arith)) ∙ sym (take_all m (ys ++ x ∷ []) (omega (arith, length-append ys (x ∷ []))))

-- where there is none, nothing changes
pub full : {X : Type 0} (m : ℕ) (ys zs first : List X) → first ≡ take m ys → m ≤ length first → first ≡ take m (ys ++ zs)
full m ys zs first e h = e ∙ sym (take-append-le m ys zs (omega (arith, length-take m ys, ap length e)))

-- one item of a list more
one_more : {X : Type 0} (old more : List X) (i : ℕ) (x : X) → i < length more → x ≡ get_or more i x → (old ++ take i more) ++ x ∷ [] ≡ old ++ take (i + 1) more
one_more old more i x lt is = append_assoc old (take i more) (x ∷ []) ∙ ap (λ l. old ++ l) (ap (λ y. take i more ++ y ∷ []) is ∙ sym (take_more more i x lt))

pub put_more : {X : Type 0} (m : ℕ) (old more : List X) (i : ℕ) (x : X) (first next : List X) → i < length more → x ≡ get_or more i x → first ≡ take m (old ++ take i more) → length first < m → next ≡ first ++ x ∷ []
    → next ≡ take m (old ++ take (i + 1) more)
put_more m old more i x first next lt is e h put = put ∙ (room m (old ++ take i more) x first e h ∙ ap (take m) (one_more old more i x lt is))

pub put_none : {X : Type 0} (m : ℕ) (old more : List X) (i : ℕ) (x : X) (first : List X) → i < length more → x ≡ get_or more i x → first ≡ take m (old ++ take i more) → m ≤ length first
    → first ≡ take m (old ++ take (i + 1) more)
put_none m old more i x first lt is e h = full m (old ++ take i more) (x ∷ []) first e h ∙ ap (take m) (one_more old more i x lt is)

-- ---- lists that are repeated

repeat_more : {X : Type 0} (i : ℕ) (xs : List X) → repeat i xs ++ xs ≡ repeat (suc i) xs
repeat_more zero xs = sym (append-nil xs)
repeat_more (suc i) xs = append_assoc xs (repeat i xs) xs ∙ ap (λ l. xs ++ l) (repeat_more i xs)

repeat_add : {X : Type 0} (a b : ℕ) (xs : List X) → repeat (a + b) xs ≡ repeat a xs ++ repeat b xs
repeat_add zero b xs = ap (λ n. repeat n xs) (plain b) where
  plain : (n : ℕ) → 0 + n ≡ n
  plain n = omega arith
repeat_add (suc a) b xs = ap (λ n. repeat n xs) (step a b) ∙ (ap (λ l. xs ++ l) (repeat_add a b xs) ∙ sym (append_assoc xs (repeat a xs) (repeat b xs))) where
  step : (a b : ℕ) → suc a + b ≡ suc (a + b)
  step a b = omega arith

repeat_nothing : (X : Type 0) (n : ℕ) → repeat {A = X} n [] ≡ []
repeat_nothing X zero = refl
repeat_nothing X (suc n) = repeat_nothing X n

repeat_long : {X : Type 0} (n : ℕ) (x : X) (xs : List X) → n ≤ length (repeat n (x ∷ xs))
repeat_long zero x xs = omega arith
repeat_long (suc n) x xs = omega (arith, length-append (x ∷ xs) (repeat n (x ∷ xs)), repeat_long n x xs)

pub map_repeat : {X Y : Type 0} (f : X → Y) (n : ℕ) (xs : List X) → map f (repeat n xs) ≡ repeat n (map f xs)
map_repeat f zero xs = refl
map_repeat f (suc n) xs = map-append f xs (repeat n xs) ∙ ap (λ l. map f xs ++ l) (map_repeat f n xs)

pub length_repeat : {X : Type 0} (n : ℕ) (xs : List X) → length (repeat n xs) ≡ n * length xs
length_repeat zero xs = omega arith
length_repeat (suc n) xs = omega (arith, length-append xs (repeat n xs), length_repeat n xs)

pub take_repeat_take : {X : Type 0} (m n : ℕ) (xs : List X) → take m (repeat n (take m xs)) ≡ take m (repeat n xs)
take_repeat_take m zero xs = refl
take_repeat_take m (suc n) xs =
    take_take_append m xs (repeat n (take m xs))
    ∙ (sym (take_append_take m m xs (repeat n (take m xs)) (omega arith))
    ∙ (ap (λ l. take m (xs ++ l)) (take_repeat_take m n xs)
    ∙ take_append_take m m xs (repeat n xs) (omega arith)))

-- more than so many times are not needed
enough : {X : Type 0} (m d : ℕ) (xs : List X) → take m (repeat m xs) ≡ take m (repeat (m + d) xs)
enough {X} m d [] = ap (take m) (repeat_nothing X m ∙ sym (repeat_nothing X (m + d)))
enough m d (x ∷ xs) = sym (ap (take m) (repeat_add m d (x ∷ xs)) ∙ take-append-le m (repeat m (x ∷ xs)) (repeat d (x ∷ xs)) (repeat_long m x xs))

pub capped_times : {X : Type 0} (m n : ℕ) (xs : List X) → take m (repeat (min n m) xs) ≡ take m (repeat n xs)
capped_times m n xs = elim (cases_lt n m) [ inl lt ↦ ap (λ k. take m (repeat k xs)) (omega arith) | inr le ↦ beyond le ] where
  beyond : m ≤ n → take m (repeat (min n m) xs) ≡ take m (repeat n xs)
  beyond le =
      let d : m + (n - m) ≡ n = omega arith in
      let low : min n m ≡ m = omega arith in
      ap (λ k. take m (repeat k xs)) low ∙ (enough m (n - m) xs ∙ ap (λ k. take m (repeat k xs)) d)

-- once more, or enough
pub again : {X : Type 0} (m i : ℕ) (xs first next : List X) → first ≡ take m (repeat i xs) → next ≡ take m (first ++ xs) → next ≡ take m (repeat (i + 1) xs)
again m i xs first next e put =
    put ∙ (ap (λ l. take m (l ++ xs)) e ∙ (take_take_append m (repeat i xs) xs ∙ ap (take m) (repeat_more i xs ∙ ap (λ k. repeat k xs) (sym (add-one i)))))

pub not_again : {X : Type 0} (m i : ℕ) (xs first : List X) → first ≡ take m (repeat i xs) → m ≤ length first → first ≡ take m (repeat (i + 1) xs)
not_again m i xs first e h = full m (repeat i xs) xs first e h ∙ ap (take m) (repeat_more i xs ∙ ap (λ k. repeat k xs) (sym (add-one i)))
