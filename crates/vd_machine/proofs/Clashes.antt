-- Where two touches meet, and that the least such cell is found.
use Rattle.std.proofs.Common.{◌≡◌, ℕ, zero, suc, ◌≤◌, Bool, true, false, cond, ◌&&◌, ◌||◌, List, [], ◌∷◌, Option, Some, None, refl, sym, ◌∙◌, ap, ap₂, subst, arith, ◌⊎◌, inl, inr}
use Rattle.std.specs.Prelude.{◌==◌, nat_lt, nat_le, IsSome, is_some, slice_get}
use Rattle.std.proofs.lemmas.Bool.{and_parts, or_cases, or_parts, and_cases, and_from, or_left, or_right, eqb-true, eqb-false, eq-eqb, ltb-true, ltb-false, leb-true, leb-false, cases_eq, cond_both, false≢true}
use Rattle.vd_mem.specs.declared.value.Cell.{Cell}
use Rattle.vd_mem.specs.Memory.{Block, cell_at, cell_of}
use Rattle.vd_machine.specs.declared.answer.Spot.{Spot}
use Rattle.vd_machine.specs.declared.touch.Touched.{Touched}
use Rattle.vd_machine.specs.Touches.{is_at, is_in, covers, AreBoth, meet_at, meet, block_meet, is_before, lesser, common, clash, IsUpToCell, IsLeastClash}

-- a place that was found comes before a cell, or is it
abbrev IsLow : Option Spot → ℕ → ℕ → Type 0
IsLow None b o = ⊥
IsLow (Some p) b o = IsUpToCell p b o

abbrev IsBoth : Option Spot → Touched → Touched → List Block → Type 0
IsBoth None t u m = Unit {0}
IsBoth (Some p) t u m = AreBoth t u m p.block p.offset

up_to : (p q : Spot) (b o : ℕ) → IsUpToCell p q.block q.offset → IsUpToCell q b o → IsUpToCell p b o
up_to p q b o (inl h) (inl k) = inl (omega arith)
up_to p q b o (inl h) (inr k) = let e = k.0 in inl (omega arith)
up_to p q b o (inr h) (inl k) = let e = h.0 in inl (omega arith)
up_to p q b o (inr h) (inr k) = let e = h.1 in let f = k.1 in inr (h.0 ∙ k.0, omega arith)

before_of : (p q : Spot) → (nat_lt p.block q.block ≡ true) ⊎ (((p.block == q.block) && nat_le p.offset q.offset) ≡ true) → IsUpToCell p q.block q.offset
before_of p q (inl h) = inl (ltb-true p.block q.block h)
before_of p q (inr h) =
    let k = and_parts (p.block == q.block) (nat_le p.offset q.offset) h in
    inr (eqb-true p.block q.block k.0, leb-true p.offset q.offset k.1)

before : (p q : Spot) → is_before p q ≡ true → IsUpToCell p q.block q.offset
before p q h = before_of p q (or_cases (nat_lt p.block q.block) ((p.block == q.block) && nat_le p.offset q.offset) h)

after_same : (p q : Spot) → q.block ≡ p.block → ((p.block == q.block) ≡ false) ⊎ (nat_le p.offset q.offset ≡ false) → IsUpToCell q p.block p.offset
after_same p q e (inl h) = absurd (eqb-false p.block q.block h (sym e))
after_same p q e (inr h) = let l = leb-false p.offset q.offset h in inr (e, omega arith)

after_of : (p q : Spot) → q.block ≤ p.block → ((p.block == q.block) && nat_le p.offset q.offset) ≡ false → (q.block ≡ p.block) ⊎ (q.block ≡ p.block → ⊥) → IsUpToCell q p.block p.offset
after_of p q l h (inl e) = after_same p q e (and_cases (p.block == q.block) (nat_le p.offset q.offset) h)
after_of p q l h (inr ne) = inl (omega arith)

after : (p q : Spot) → is_before p q ≡ false → IsUpToCell q p.block p.offset
after p q h =
    let k = or_parts (nat_lt p.block q.block) ((p.block == q.block) && nat_le p.offset q.offset) h in
    after_of p q (ltb-false p.block q.block k.0) k.1 (cases_eq q.block p.block)

low-left : (p q : Option Spot) (b o : ℕ) → IsLow p b o → IsLow (lesser p q) b o
low-left None q b o h = absurd h
low-left (Some p) None b o h = h
low-left (Some p) (Some q) b o h = cond_both (is_before p q) (Some p) (Some q) (λ r. IsLow r b o) (λ e. h) (λ e. up_to q p b o (after p q e) h)

low-right : (p q : Option Spot) (b o : ℕ) → IsLow q b o → IsLow (lesser p q) b o
low-right None q b o h = h
low-right (Some p) None b o h = absurd h
low-right (Some p) (Some q) b o h = cond_both (is_before p q) (Some p) (Some q) (λ r. IsLow r b o) (λ e. up_to p q b o (before p q e) h) (λ e. h)

lesser_is : (P : Option Spot → Type 0) (p q : Option Spot) → P p → P q → P (lesser p q)
lesser_is P None q h k = k
lesser_is P (Some p) None h k = h
lesser_is P (Some p) (Some q) h k = cond_both (is_before p q) (Some p) (Some q) P (λ e. h) (λ e. k)

turned_round : (p : Option Spot) (t u : Touched) (m : List Block) → IsBoth p u t m → IsBoth p t u m
turned_round None t u m h = tt
turned_round (Some p) t u m h = (h.1.0, (h.0, h.1.1))

met : (test : Bool) (p : Spot) (t u : Touched) (m : List Block) → (test ≡ true → AreBoth t u m p.block p.offset) → IsBoth (meet_at test p) t u m
met true p t u m h = h refl
met false p t u m h = tt

meet_is : (m : List Block) (p : Option Spot) (t u : Touched) → ((q : Spot) → p ≡ Some q → covers t q.block q.offset ≡ true) → IsBoth (meet m p u) t u m
meet_is m None t u h = tt
meet_is m (Some p) t u h =
    met (covers u p.block p.offset && is_some (cell_at m p.block p.offset)) p t u m
    (λ e. let k = and_parts (covers u p.block p.offset) (is_some (cell_at m p.block p.offset)) e in (h p refl, (k.0, k.1)))

is_at-self : (p : Spot) → is_at (Some p) p.block p.offset ≡ true
is_at-self p = and_from (p.block == p.block) (p.offset == p.offset) (eq-eqb p.block p.block refl) (eq-eqb p.offset p.offset refl)

by_first : (t : Touched) (q : Spot) → t.first ≡ Some q → covers t q.block q.offset ≡ true
by_first t q e = or_left (is_at t.first q.block q.offset) _ (ap (λ p. is_at p q.block q.offset) e ∙ is_at-self q)

by_second : (t : Touched) (q : Spot) → t.second ≡ Some q → covers t q.block q.offset ≡ true
by_second t q e = or_right (is_at t.first q.block q.offset) _ (or_left (is_at t.second q.block q.offset) _ (ap (λ p. is_at p q.block q.offset) e ∙ is_at-self q))

by_block : (t : Touched) (b o : ℕ) → is_in t.block b ≡ true → covers t b o ≡ true
by_block t b o e = or_right (is_at t.first b o) _ (or_right (is_at t.second b o) _ e)

block_meet_is : (m : List Block) (n : Option ℕ) (t u : Touched) → ((b : ℕ) → n ≡ Some b → is_in t.block b ≡ true) → IsBoth (block_meet m n u) t u m
block_meet_is m None t u h = tt
block_meet_is m (Some b) t u h =
    met (is_in u.block b && is_some (cell_at m b 0)) (record { block = b; offset = 0 }) t u m
    (λ e. let k = and_parts (is_in u.block b) (is_some (cell_at m b 0)) e in (by_block t b 0 (h b refl), (by_block u b 0 k.0, k.1)))

in_block : (t : Touched) (b : ℕ) → t.block ≡ Some b → is_in t.block b ≡ true
in_block t b e = ap (λ n. is_in n b) e ∙ eq-eqb b b refl

common_is : (m : List Block) (t u : Touched) → IsBoth (common m t u) t u m
common_is m t u =
    lesser_is (λ p. IsBoth p t u m) (lesser (meet m t.first u) (meet m t.second u)) (lesser (lesser (meet m u.first t) (meet m u.second t)) (block_meet m t.block u))
    (lesser_is (λ p. IsBoth p t u m) (meet m t.first u) (meet m t.second u) (meet_is m t.first t u (by_first t)) (meet_is m t.second t u (by_second t)))
    (lesser_is (λ p. IsBoth p t u m) (lesser (meet m u.first t) (meet m u.second t)) (block_meet m t.block u)
    (lesser_is (λ p. IsBoth p t u m) (meet m u.first t) (meet m u.second t) (turned_round (meet m u.first t) t u m (meet_is m u.first u t (by_first u))) (turned_round (meet m u.second t) t u m (meet_is m u.second u t (by_second u))))
    (block_meet_is m t.block t u (in_block t)))

-- a place that is the cell
meet_low : (m : List Block) (p : Option Spot) (u : Touched) (b o : ℕ) → is_at p b o ≡ true → covers u b o ≡ true → IsSome (cell_at m b o) → IsLow (meet m p u) b o
meet_low m None u b o h c s = absurd (false≢true h)
meet_low m (Some p) u b o h c s =
    let k = and_parts (p.block == b) (p.offset == o) h in
    let eb : p.block ≡ b = eqb-true p.block b k.0 in
    let eo : p.offset ≡ o = eqb-true p.offset o k.1 in
    let test : (covers u p.block p.offset && is_some (cell_at m p.block p.offset)) ≡ true =
    ap₂ (λ x y. covers u x y && is_some (cell_at m x y)) eb eo ∙ and_from (covers u b o) (is_some (cell_at m b o)) c s in
    subst (λ x. IsLow (meet_at x p) b o) (sym test) (inr (eb, omega arith))

first_in : (cells : List Cell) (o : ℕ) → IsSome (slice_get cells o) → IsSome (slice_get cells 0)
first_in [] zero h = h
first_in [] (suc o) h = h
first_in (c ∷ cells) o h = refl

first_of_live : (live : Bool) (cells : List Cell) (o : ℕ) → IsSome (cond live (slice_get cells o) None) → IsSome (cond live (slice_get cells 0) None)
first_of_live true cells o h = first_in cells o h
first_of_live false cells o h = h

pub first_of_block : (x : Option Block) (o : ℕ) → IsSome (cell_of x o) → IsSome (cell_of x 0)
first_of_block None o h = h
first_of_block (Some x) o h = first_of_live x.is_live x.cells o h

block_meet_low : (m : List Block) (n : Option ℕ) (u : Touched) (b o : ℕ) → is_in n b ≡ true → is_in u.block b ≡ true → IsSome (cell_at m b o) → IsLow (block_meet m n u) b o
block_meet_low m None u b o h c s = absurd (false≢true h)
block_meet_low m (Some d) u b o h c s =
    let e : d ≡ b = eqb-true d b h in
    let test : (is_in u.block d && is_some (cell_at m d 0)) ≡ true =
    ap (λ x. is_in u.block x && is_some (cell_at m x 0)) e ∙ and_from (is_in u.block b) (is_some (cell_at m b 0)) c (first_of_block (slice_get m b) o s) in
    subst (λ x. IsLow (meet_at x (record { block = d; offset = 0 })) b o) (sym test) (inr (e, omega arith))

low_by : (m : List Block) (t u : Touched) (b o : ℕ) → AreBoth t u m b o →
    (is_at t.first b o ≡ true) ⊎ ((is_at t.second b o || is_in t.block b) ≡ true) → (is_at u.first b o ≡ true) ⊎ ((is_at u.second b o || is_in u.block b) ≡ true) →
    IsLow (common m t u) b o
low_by m t u b o h (inl x) y = low-left _ _ b o (low-left (meet m t.first u) (meet m t.second u) b o (meet_low m t.first u b o x h.1.0 h.1.1))
low_by m t u b o h (inr x) (inl y) =
    low-right (lesser (meet m t.first u) (meet m t.second u)) _ b o (low-left (lesser (meet m u.first t) (meet m u.second t)) (block_meet m t.block u) b o
    (low-left (meet m u.first t) (meet m u.second t) b o (meet_low m u.first t b o y h.0 h.1.1)))
low_by m t u b o h (inr x) (inr y) = rest (or_cases (is_at t.second b o) (is_in t.block b) x) (or_cases (is_at u.second b o) (is_in u.block b) y)
  where
    rest : (is_at t.second b o ≡ true) ⊎ (is_in t.block b ≡ true) → (is_at u.second b o ≡ true) ⊎ (is_in u.block b ≡ true) → IsLow (common m t u) b o
    rest (inl z) w = low-left _ _ b o (low-right (meet m t.first u) (meet m t.second u) b o (meet_low m t.second u b o z h.1.0 h.1.1))
    rest (inr z) (inl w) =
        low-right (lesser (meet m t.first u) (meet m t.second u)) _ b o (low-left (lesser (meet m u.first t) (meet m u.second t)) (block_meet m t.block u) b o
        (low-right (meet m u.first t) (meet m u.second t) b o (meet_low m u.second t b o w h.0 h.1.1)))
    rest (inr z) (inr w) =
        low-right (lesser (meet m t.first u) (meet m t.second u)) _ b o (low-right (lesser (meet m u.first t) (meet m u.second t)) (block_meet m t.block u) b o
        (block_meet_low m t.block u b o z w h.1.1))

common_low : (m : List Block) (t u : Touched) (b o : ℕ) → AreBoth t u m b o → IsLow (common m t u) b o
common_low m t u b o h =
    low_by m t u b o h (or_cases (is_at t.first b o) (is_at t.second b o || is_in t.block b) h.0) (or_cases (is_at u.first b o) (is_at u.second b o || is_in u.block b) h.1.0)

least_by : (p : Option Spot) (m : List Block) (t u : Touched) → (t.writes || u.writes) ≡ true → IsBoth p t u m → ((b o : ℕ) → AreBoth t u m b o → IsLow p b o) → IsLeastClash p t u m
least_by None m t u w h l = λ b o k. l b o k.0
least_by (Some p) m t u w h l = ((h, w), λ b o k. l b o k.0)

clash_by : (writes : Bool) (m : List Block) (t u : Touched) → (t.writes || u.writes) ≡ writes → IsLeastClash (cond writes (common m t u) None) t u m
clash_by true m t u e = least_by (common m t u) m t u e (common_is m t u) (common_low m t u)
clash_by false m t u e = λ b o k. false≢true (sym e ∙ k.1)

-- the least cell at which two touches race is found
pub clash_least : (m : List Block) (t u : Touched) → IsLeastClash (clash m t u) t u m
clash_least m t u = clash_by (t.writes || u.writes) m t u refl
