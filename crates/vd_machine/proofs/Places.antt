-- Places in order, and sets of them.
use Rattle.std.proofs.Common.{◌≡◌, ℕ, ◌<◌, ◌≤◌, Bool, true, false, cond, not, ◌&&◌, ◌||◌, List, [], ◌∷◌, Some, refl, sym, ◌∙◌, ap, ap₂, subst, arith, ◌⊎◌, inl, inr}
use Rattle.std.specs.Prelude.{◌==◌}
use Rattle.std.specs.Ordering.{nat_cmp, ordering_then, is_eq, is_gt}
use Rattle.std.specs.declared.cmp.Ordering.{Ordering}
use Rattle.std.specs.declared.cmp.Ordering.TheVariants.{Less, Equal, Greater}
use Rattle.std.specs.BTreeSet.{BTreeSet, contains, IsKeyRangeOf}
use Rattle.std.specs.declared.ops.Bound.TheVariants.{Included, Unbounded}
use Rattle.std.proofs.lemmas.Bool.{and_parts, eqb-true, eqb-false, eq-eqb, ne_eqb, lt-ltb, le-ltb, cases_order, cases_Bool, false≢true}
use Rattle.vd_machine.specs.declared.answer.Spot.{Spot}
use Rattle.vd_machine.specs.Touches.{is_at, is_in}
use Rattle.vd_machine.specs.Watching.{Place, place_cmp, has}

less : (a b : ℕ) → a < b → nat_cmp a b ≡ Less
less a b l = ap (λ x. cond x Less (cond (a == b) Equal Greater)) (lt-ltb a b l)

equal : (a b : ℕ) → a ≡ b → nat_cmp a b ≡ Equal
equal a b e = ap₂ (λ x y. cond x Less (cond y Equal Greater)) (le-ltb a b (omega arith)) (eq-eqb a b e)

greater : (a b : ℕ) → b < a → nat_cmp a b ≡ Greater
greater a b l = ap₂ (λ x y. cond x Less (cond y Equal Greater)) (le-ltb a b (omega arith)) (ne_eqb a b (λ e. omega arith))

eq_number : (a b : ℕ) → is_eq (nat_cmp a b) ≡ (a == b)
eq_number a b = by_case (cases_order a b)
  where
    by_case : (a ≡ b) ⊎ ((a < b) ⊎ (b < a)) → is_eq (nat_cmp a b) ≡ (a == b)
    by_case (inl e) = ap is_eq (equal a b e) ∙ sym (eq-eqb a b e)
    by_case (inr (inl l)) = ap is_eq (less a b l) ∙ sym (ne_eqb a b (λ e. omega arith))
    by_case (inr (inr l)) = ap is_eq (greater a b l) ∙ sym (ne_eqb a b (λ e. omega arith))

eq_then : (x y : Ordering) → is_eq (ordering_then x y) ≡ (is_eq x && is_eq y)
eq_then Less y = refl
eq_then Equal y = refl
eq_then Greater y = refl

-- two places are one where their parts are
pub same_place : (b o k c p j : ℕ) → is_eq (place_cmp (b, o, k) (c, p, j)) ≡ (((b == c) && (o == p)) && (k == j))
same_place b o k c p j =
    eq_then (ordering_then (nat_cmp b c) (nat_cmp o p)) (nat_cmp k j)
    ∙ ap₂ (λ x y. x && y) (eq_then (nat_cmp b c) (nat_cmp o p) ∙ ap₂ (λ x y. x && y) (eq_number b c) (eq_number o p)) (eq_number k j)

le_number : (a b : ℕ) → a ≤ b → is_gt (nat_cmp a b) ≡ false
le_number a b l = by_case (cases_order a b)
  where
    by_case : (a ≡ b) ⊎ ((a < b) ⊎ (b < a)) → is_gt (nat_cmp a b) ≡ false
    by_case (inl e) = ap is_gt (equal a b e)
    by_case (inr (inl m)) = ap is_gt (less a b m)
    by_case (inr (inr m)) = absurd (omega arith)

-- a place of thread 0 is up to each other place of the same cell
pub up_to_spot : (b o k : ℕ) → is_gt (place_cmp (b, o, 0) (b, o, k)) ≡ false
up_to_spot b o k =
    ap₂ (λ x y. is_gt (ordering_then (ordering_then x y) (nat_cmp 0 k))) (equal b b refl) (equal o o refl) ∙ le_number 0 k (omega arith)

up_to_by : (b o k : ℕ) → (0 ≡ o) ⊎ ((0 < o) ⊎ (o < 0)) → is_gt (place_cmp (b, 0, 0) (b, o, k)) ≡ false
up_to_by b o k (inl e) = ap₂ (λ x y. is_gt (ordering_then (ordering_then x y) (nat_cmp 0 k))) (equal b b refl) (equal 0 o e) ∙ le_number 0 k (omega arith)
up_to_by b o k (inr (inl l)) = ap₂ (λ x y. is_gt (ordering_then (ordering_then x y) (nat_cmp 0 k))) (equal b b refl) (less 0 o l)
up_to_by b o k (inr (inr l)) = absurd (omega arith)

-- the first place of a block is up to each of its places
pub up_to_block : (b o k : ℕ) → is_gt (place_cmp (b, 0, 0) (b, o, k)) ≡ false
up_to_block b o k = up_to_by b o k (cases_order 0 o)

le_first : (b o k c p j : ℕ) → is_gt (place_cmp (b, o, k) (c, p, j)) ≡ false → b ≤ c
le_first b o k c p j h = by_case (cases_order b c)
  where
    by_case : (b ≡ c) ⊎ ((b < c) ⊎ (c < b)) → b ≤ c
    by_case (inl e) = omega arith
    by_case (inr (inl l)) = omega arith
    by_case (inr (inr l)) = absurd (false≢true (sym h ∙ ap (λ x. is_gt (ordering_then (ordering_then x (nat_cmp o p)) (nat_cmp k j))) (greater b c l)))

le_second : (b o k c p j : ℕ) → b ≡ c → is_gt (place_cmp (b, o, k) (c, p, j)) ≡ false → o ≤ p
le_second b o k c p j e h = by_case (cases_order o p)
  where
    by_case : (o ≡ p) ⊎ ((o < p) ⊎ (p < o)) → o ≤ p
    by_case (inl f) = omega arith
    by_case (inr (inl l)) = omega arith
    by_case (inr (inr l)) = absurd (false≢true (sym h ∙ ap₂ (λ x y. is_gt (ordering_then (ordering_then x y) (nat_cmp k j))) (equal b c e) (greater o p l)))

-- a place between two others of one block is in that block, and one between two of a cell is of that cell
pub between_block : (b o k c p j q i : ℕ) → is_gt (place_cmp (b, o, k) (c, p, j)) ≡ false → is_gt (place_cmp (c, p, j) (b, q, i)) ≡ false → c ≡ b
between_block b o k c p j q i h g = let l = le_first b o k c p j h in let m = le_first c p j b q i g in omega arith

pub between_spot : (b o k c p j i : ℕ) → is_gt (place_cmp (b, o, k) (c, p, j)) ≡ false → is_gt (place_cmp (c, p, j) (b, o, i)) ≡ false → (c ≡ b) × (p ≡ o)
between_spot b o k c p j i h g =
    let e : c ≡ b = between_block b o k c p j o i h g in
    let l = le_second b o k c p j (sym e) h in
    let m = le_second c p j b o i e g in
    (e, omega arith)

or_as : (x y : Bool) → cond x true y ≡ (x || y)
or_as true y = refl
or_as false y = refl

and_as : (x y : Bool) → cond x false y ≡ (not x && y)
and_as true y = refl
and_as false y = refl

-- a set with one place more, and with one less
pub put_one :
    (set now : BTreeSet Place) (p : Spot) (n b o k : ℕ) → has now b o k ≡ cond (is_eq (place_cmp (p.block, p.offset, n) (b, o, k))) true (has set b o k) →
    has now b o k ≡ ((is_at (Some p) b o && (n == k)) || has set b o k)
put_one set now p n b o k e = e ∙ ap (λ x. cond x true (has set b o k)) (same_place p.block p.offset n b o k) ∙ or_as ((((p.block == b) && (p.offset == o)) && (n == k))) (has set b o k)

pub take_one :
    (set now : BTreeSet Place) (p : Spot) (n b o k : ℕ) → has now b o k ≡ cond (is_eq (place_cmp (p.block, p.offset, n) (b, o, k))) false (has set b o k) →
    has now b o k ≡ (not (is_at (Some p) b o && (n == k)) && has set b o k)
take_one set now p n b o k e = e ∙ ap (λ x. cond x false (has set b o k)) (same_place p.block p.offset n b o k) ∙ and_as ((((p.block == b) && (p.offset == o)) && (n == k))) (has set b o k)

-- the first place of a set from a place on comes before each other one there
first_from :
    (set : BTreeSet Place) (r t : List Place) (from x : Place) → IsKeyRangeOf place_cmp (Included from) Unbounded set r → r ≡ x ∷ t →
    (is_gt (place_cmp from x) ≡ false) × ((q : Place) → is_gt (place_cmp from q) ≡ false → contains place_cmp set q ≡ true → is_gt (place_cmp x q) ≡ false)
first_from set r t from x h e =
    let k = subst (λ y. IsKeyRangeOf place_cmp (Included from) Unbounded set y) e h in
    (k.1.0.0, λ q l c. k.2 q (l, tt) c)

at_parts : (p : Spot) (b o : ℕ) → is_at (Some p) b o ≡ true → (p.block ≡ b) × (p.offset ≡ o)
at_parts p b o h = let k = and_parts (p.block == b) (p.offset == o) h in (eqb-true p.block b k.0, eqb-true p.offset o k.1)

-- no thread is at a spot where none is found, or where the first place from there on is another
pub none_at :
    (set : BTreeSet Place) (r : List Place) (p : Spot) (b o k : ℕ) → IsKeyRangeOf place_cmp (Included (p.block, p.offset, 0)) Unbounded set r → r ≡ [] → is_at (Some p) b o ≡ true →
    has set b o k ≡ false
none_at set r p b o k h e at =
    let same = at_parts p b o at in
    subst (λ y. has set y o k ≡ false) same.0 (subst (λ y. has set p.block y k ≡ false) same.1 (h.5 e (p.block, p.offset, k) (up_to_spot p.block p.offset k, tt)))

pub other_at :
    (set : BTreeSet Place) (r t : List Place) (p : Spot) (x : Place) (b o k : ℕ) → IsKeyRangeOf place_cmp (Included (p.block, p.offset, 0)) Unbounded set r → r ≡ x ∷ t →
    ((x.0 == p.block) ≡ false) ⊎ ((x.1 == p.offset) ≡ false) → is_at (Some p) b o ≡ true → has set b o k ≡ false
other_at set r t p x b o k h e far at = by_case (cases_Bool (has set b o k))
  where
    apart : (x.0 ≡ p.block) × (x.1 ≡ p.offset) → ((x.0 == p.block) ≡ false) ⊎ ((x.1 == p.offset) ≡ false) → ⊥
    apart same (inl f) = eqb-false x.0 p.block f same.0
    apart same (inr f) = eqb-false x.1 p.offset f same.1

    by_case : (has set b o k ≡ true) ⊎ (has set b o k ≡ false) → has set b o k ≡ false
    by_case (inl c) =
        let same = at_parts p b o at in
        let first = first_from set r t (p.block, p.offset, 0) x h e in
        let is : has set p.block p.offset k ≡ true = subst (λ y. has set p.block y k ≡ true) (sym same.1) (subst (λ y. has set y o k ≡ true) (sym same.0) c) in
        absurd (apart (between_spot p.block p.offset 0 x.0 x.1 x.2 k first.0 (first.1 (p.block, p.offset, k) (up_to_spot p.block p.offset k) is)) far)
    by_case (inr c) = c

-- no thread is in a block where none is found, or where the first place from there on is in another
pub none_in_block :
    (set : BTreeSet Place) (r : List Place) (c b o k : ℕ) → IsKeyRangeOf place_cmp (Included (c, 0, 0)) Unbounded set r → r ≡ [] → is_in (Some c) b ≡ true → has set b o k ≡ false
none_in_block set r c b o k h e at = subst (λ y. has set y o k ≡ false) (eqb-true c b at) (h.5 e (c, o, k) (up_to_block c o k, tt))

pub other_in_block :
    (set : BTreeSet Place) (r t : List Place) (x : Place) (c b o k : ℕ) → IsKeyRangeOf place_cmp (Included (c, 0, 0)) Unbounded set r → r ≡ x ∷ t → (x.0 == c) ≡ false →
    is_in (Some c) b ≡ true → has set b o k ≡ false
other_in_block set r t x c b o k h e far at = by_case (cases_Bool (has set b o k))
  where
    by_case : (has set b o k ≡ true) ⊎ (has set b o k ≡ false) → has set b o k ≡ false
    by_case (inl f) =
        let first = first_from set r t (c, 0, 0) x h e in
        let is : has set c o k ≡ true = subst (λ y. has set y o k ≡ true) (sym (eqb-true c b at)) f in
        absurd (eqb-false x.0 c far (between_block c 0 0 x.0 x.1 x.2 o k first.0 (first.1 (c, o, k) (up_to_block c o k) is)))
    by_case (inr f) = f
