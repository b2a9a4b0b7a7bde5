-- What an index shows of races.
use Rattle.std.proofs.Common.{◌≡◌, ℕ, ◌<◌, ◌≤◌, Bool, true, false, cond, ◌||◌, List, [], length, Option, Some, None, refl, sym, ◌∙◌, ap, ap₂, subst, arith, ◌⊎◌, inl, inr}
use Rattle.std.specs.Prelude.{◌==◌, IsSome, is_some, slice_get}
use Rattle.std.proofs.lemmas.Bool.{and_parts, and_from, or_cases, or_left, or_right, eqb-true, eq-eqb, ne_eqb, cases_eq, cases_lt, cases_Bool, false≢true}
use Rattle.vd_clight.specs.declared.program.GlobalDef.{GlobalDef}
use Rattle.vd_mem.specs.Memory.{Block, cell_at}
use Rattle.vd_machine.specs.declared.answer.Spot.{Spot}
use Rattle.vd_machine.specs.declared.frame.Thread.{Thread as KeptThread}
use Rattle.vd_machine.specs.declared.touch.Touched.{Touched}
use Rattle.vd_machine.specs.declared.watch.Watch.{Watch}
use Rattle.vd_machine.specs.Rivals.{touch_at}
use Rattle.vd_machine.specs.Thread.{System}
use Rattle.vd_machine.specs.Touches.{nothing, thread_touch, is_at, is_in, block_of, covers, meet_at, Clashes}
use Rattle.vd_machine.specs.Turns.{system_of}
use Rattle.vd_machine.specs.Watching.{reaches, live_spot, block_if, live_block, live, has, is_either, spots, looks, writes, start_at, starts, touch_in, IsIndex, IsWith, Meets, Enters, Joins, Watches}
use Rattle.vd_machine.proofs.Calm.{beyond}
use Rattle.vd_machine.proofs.Clashes.{first_of_block}
use Rattle.vd_machine.proofs.Noted.{none_in}
use Rattle.vd_machine.proofs.Rivals.{absent}

-- the look at the places that some thread writes or looks at
pub spots_apart :
    (v : Watch) (t u : Touched) (k b o : ℕ) → IsIndex v → u ≡ touch_in v.touches.items k → (is_either (spots t) b o ≡ true → has v.written b o k ≡ false) →
    (t.writes ≡ true → is_either (spots t) b o ≡ true → has v.looked b o k ≡ false) → is_either (spots t) b o ≡ true → is_either (spots u) b o ≡ true →
    (t.writes || u.writes) ≡ true → ⊥
spots_apart v t u k b o index is written looked h g w = by_case (cases_Bool u.writes)
  where
    writes_is : has v.written b o k ≡ is_either (writes u) b o
    writes_is = index.written b o k ∙ ap (λ x. is_either (writes x) b o) (sym is)

    looks_is : has v.looked b o k ≡ is_either (looks u) b o
    looks_is = index.looked b o k ∙ ap (λ x. is_either (looks x) b o) (sym is)

    other : (x y : Bool) → (x || y) ≡ true → y ≡ false → x ≡ true
    other true y e f = refl
    other false y e f = absurd (false≢true (sym f ∙ e))

    by_case : (u.writes ≡ true) ⊎ (u.writes ≡ false) → ⊥
    by_case (inl e) = false≢true (sym (written h) ∙ writes_is ∙ ap (λ x. is_either (cond x (spots u) (None, None)) b o) e ∙ g)
    by_case (inr e) = false≢true (sym (looked (other t.writes u.writes w e) h) ∙ looks_is ∙ ap (λ x. is_either (cond x (None, None) (spots u)) b o) e ∙ g)

at_in : (p : Option Spot) (b o : ℕ) → is_at p b o ≡ true → is_in (block_of p) b ≡ true
at_in None b o h = h
at_in (Some p) b o h = (and_parts (p.block == b) (p.offset == o) h).0

in_start : (x : Option ℕ) (b : ℕ) → is_in x b ≡ true → is_at (start_at x) b 0 ≡ true
in_start None b h = h
in_start (Some c) b h = and_from (c == b) (0 == 0) h (eq-eqb 0 0 refl)

freed_is : (v : Watch) (u : Touched) (k b : ℕ) → IsIndex v → u ≡ touch_in v.touches.items k → is_in u.block b ≡ true → has v.freed b 0 k ≡ true
freed_is v u k b index is h =
    index.freed b 0 k ∙ ap (λ x. is_either (starts x) b 0) (sym is) ∙ or_left (is_at (start_at u.block) b 0) (is_at None b 0) (in_start u.block b h)

-- the look at the blocks that some thread touches whole
pub free_apart :
    (v : Watch) (p : Option Spot) (u : Touched) (k b o : ℕ) → IsIndex v → u ≡ touch_in v.touches.items k → (is_in (block_of p) b ≡ true → has v.freed b 0 k ≡ false) →
    is_at p b o ≡ true → is_in u.block b ≡ true → ⊥
free_apart v p u k b o index is freed h g = false≢true (sym (freed (at_in p b o h)) ∙ freed_is v u k b index is g)

split : (t : Touched) (b o : ℕ) → covers t b o ≡ true → (is_either (spots t) b o ≡ true) ⊎ (is_in t.block b ≡ true)
split t b o h = by_case (is_at t.first b o) (is_at t.second b o) (is_in t.block b) h
  where
    by_case : (x y z : Bool) → (x || (y || z)) ≡ true → ((x || y) ≡ true) ⊎ (z ≡ true)
    by_case true y z e = inl refl
    by_case false true z e = inl refl
    by_case false false z e = inr e

-- the look at what is touched in a block
pub block_apart :
    (v : Watch) (u : Touched) (k b o : ℕ) → IsIndex v → u ≡ touch_in v.touches.items k → has v.freed b 0 k ≡ false → has v.looked b o k ≡ false → has v.written b o k ≡ false →
    covers u b o ≡ true → ⊥
block_apart v u k b o index is freed looked written h = by_part (split u b o h)
  where
    by_writes : is_either (spots u) b o ≡ true → (u.writes ≡ true) ⊎ (u.writes ≡ false) → ⊥
    by_writes g (inl e) =
        false≢true (sym written ∙ index.written b o k ∙ ap (λ x. is_either (writes x) b o) (sym is) ∙ ap (λ x. is_either (cond x (spots u) (None, None)) b o) e ∙ g)
    by_writes g (inr e) =
        false≢true (sym looked ∙ index.looked b o k ∙ ap (λ x. is_either (looks x) b o) (sym is) ∙ ap (λ x. is_either (cond x (None, None) (spots u)) b o) e ∙ g)

    by_part : (is_either (spots u) b o ≡ true) ⊎ (is_in u.block b ≡ true) → ⊥
    by_part (inl g) = by_writes g (cases_Bool u.writes)
    by_part (inr g) = false≢true (sym freed ∙ freed_is v u k b index is g)

-- a touch that meets another one does so at a place of both, at one in the other's block, or in its own block
pub unmet :
    (t u : Touched) (b o : ℕ) → (is_either (spots t) b o ≡ true → is_either (spots u) b o ≡ true → (t.writes || u.writes) ≡ true → ⊥) →
    (is_in t.block b ≡ true → covers u b o ≡ true → ⊥) → (is_at t.first b o ≡ true → is_in u.block b ≡ true → ⊥) → (is_at t.second b o ≡ true → is_in u.block b ≡ true → ⊥) →
    Meets t u b o → ⊥
unmet t u b o places block first second h = by_part (split t b o h.first)
  where
    by_spot : is_in u.block b ≡ true → (is_at t.first b o ≡ true) ⊎ (is_at t.second b o ≡ true) → ⊥
    by_spot g (inl e) = first e g
    by_spot g (inr e) = second e g

    by_other : is_either (spots t) b o ≡ true → (is_either (spots u) b o ≡ true) ⊎ (is_in u.block b ≡ true) → ⊥
    by_other e (inl g) = places e g h.writes
    by_other e (inr g) = by_spot g (or_cases (is_at t.first b o) (is_at t.second b o) e)

    by_part : (is_either (spots t) b o ≡ true) ⊎ (is_in t.block b ≡ true) → ⊥
    by_part (inl e) = by_other e (split u b o h.second)
    by_part (inr e) = block e h.second

live_at : (m : List Block) (p : Option Spot) (b o : ℕ) → is_at p b o ≡ true → IsSome (cell_at m b o) → is_at (live_spot m p) b o ≡ true
live_at m None b o h s = h
live_at m (Some p) b o h s =
    let k = and_parts (p.block == b) (p.offset == o) h in
    let eb : p.block ≡ b = eqb-true p.block b k.0 in
    let eo : p.offset ≡ o = eqb-true p.offset o k.1 in
    let test : is_some (cell_at m p.block p.offset) ≡ true = ap₂ (λ x y. is_some (cell_at m x y)) eb eo ∙ s in
    ap (λ x. is_at (meet_at x p) b o) test ∙ h

live_in : (m : List Block) (x : Option ℕ) (b o : ℕ) → is_in x b ≡ true → IsSome (cell_at m b o) → is_in (live_block m x) b ≡ true
live_in m None b o h s = h
live_in m (Some c) b o h s =
    let e : c ≡ b = eqb-true c b h in
    let test : is_some (cell_at m c 0) ≡ true = ap (λ x. is_some (cell_at m x 0)) e ∙ first_of_block (slice_get m b) o s in
    ap (λ x. is_in (block_if x c) b) test ∙ h

live_covers : (m : List Block) (t : Touched) (b o : ℕ) → covers t b o ≡ true → IsSome (cell_at m b o) → covers (live m t) b o ≡ true
live_covers m t b o h s = by_first (or_cases (is_at t.first b o) (is_at t.second b o || is_in t.block b) h)
  where
    l : Touched
    l = live m t

    by_second : (is_at t.second b o ≡ true) ⊎ (is_in t.block b ≡ true) → (is_at l.second b o || is_in l.block b) ≡ true
    by_second (inl e) = or_left (is_at l.second b o) (is_in l.block b) (live_at m t.second b o e s)
    by_second (inr e) = or_right (is_at l.second b o) (is_in l.block b) (live_in m t.block b o e s)

    by_first : (is_at t.first b o ≡ true) ⊎ ((is_at t.second b o || is_in t.block b) ≡ true) → covers l b o ≡ true
    by_first (inl e) = or_left (is_at l.first b o) (is_at l.second b o || is_in l.block b) (live_at m t.first b o e s)
    by_first (inr e) = or_right (is_at l.first b o) (is_at l.second b o || is_in l.block b) (by_second (or_cases (is_at t.second b o) (is_in t.block b) e))

-- a thread comes into an index that its touch does not meet
pub entered :
    (globals : List GlobalDef) (s : System) (v w : Watch) (n : ℕ) (t : Touched) → t ≡ touch_at globals s n → reaches t v.blocks ≡ false →
    ((k b o : ℕ) → Meets (live s.memory t) (touch_in v.touches.items k) b o → ⊥) → IsWith v n t w → w.blocks ≡ v.blocks → Enters globals s v n w
entered globals s v w n t is far none added blocks = record {
  added = subst (λ x. IsWith v n x w) is added;
  blocks = blocks;
  apart = λ k b o c. alone k b o (subst (λ x. Clashes x (touch_in v.touches.items k) s.memory b o) (sym is) c);
  below = λ b o c. by_case b o (subst (λ x. covers x b o ≡ true) (sym is) c) (cases_lt b v.blocks);
}
  where
    alone : (k b o : ℕ) → Clashes t (touch_in v.touches.items k) s.memory b o → ⊥
    alone k b o c = none k b o (record { first = live_covers s.memory t b o c.0.0 c.0.1.1; second = c.0.1.0; writes = c.1 })

    by_case : (b o : ℕ) → covers t b o ≡ true → (b < v.blocks) ⊎ (v.blocks ≤ b) → b < v.blocks
    by_case b o c (inl l) = l
    by_case b o c (inr l) = absurd (beyond t v.blocks b o far l c)

-- a thread that is not there touches nothing
pub no_touch : (globals : List GlobalDef) (s : System) (n : ℕ) → length s.threads ≤ n → touch_at globals s n ≡ nothing
no_touch globals s n l = ap (λ x. thread_touch globals x) (absent s.threads n l)

-- the index of a program's first state
pub watches_first :
    (globals : List GlobalDef) (s : System) (v w : Watch) → length s.threads ≤ 1 → IsIndex v → v.touches.items ≡ [] → v.blocks ≤ length s.memory → Joins globals s v w →
    Watches globals s w
watches_first globals s v w few index empty blocks (inl (l, e)) =
    let none : length v.touches.items ≡ 0 = ap (λ xs. length xs) empty in
    let count = e.added.noted.count in
    record {
      index = e.added.index;
      touches = touches;
      count = omega arith;
      below = λ k b o c. by_case k b o c (cases_eq k (length v.touches.items));
      blocks = let same = e.blocks in omega arith;
    }
  where
    n : ℕ
    n = length v.touches.items

    start : n ≡ 0
    start = ap (λ xs. length xs) empty

    touches : (k : ℕ) → touch_in w.touches.items k ≡ touch_at globals s k
    touches k = by_number (cases_eq k n)
      where
        by_number : (k ≡ n) ⊎ (k ≡ n → ⊥) → touch_in w.touches.items k ≡ touch_at globals s k
        by_number (inl f) =
            e.added.noted.touches k ∙ ap (λ x. cond x (touch_at globals s n) (touch_in v.touches.items k)) (eq-eqb n k (sym f)) ∙ ap (λ x. touch_at globals s x) (sym f)
        by_number (inr ne) =
            e.added.noted.touches k ∙ ap (λ x. cond x (touch_at globals s n) (touch_in v.touches.items k)) (ne_eqb n k (λ f. ne (sym f)))
            ∙ none_in v.touches.items k (omega arith) ∙ sym (no_touch globals s k (let x = start in omega arith))

    by_case : (k b o : ℕ) → covers (touch_at globals s k) b o ≡ true → (k ≡ n) ⊎ (k ≡ n → ⊥) → b < w.blocks
    by_case k b o c (inl f) = let below = e.below b o (subst (λ x. covers (touch_at globals s x) b o ≡ true) f c) in let same = e.blocks in omega arith
    by_case k b o c (inr ne) =
        let x = start in
        absurd (false≢true (sym (ap (λ t. covers t b o) (no_touch globals s k (omega arith))) ∙ c))
watches_first globals s v w few index empty blocks (inr (l, e)) =
    let none : length v.touches.items ≡ 0 = ap (λ xs. length xs) empty in
    subst (λ x. Watches globals s x) (sym e) (record {
      index = index;
      touches = λ k. none_in v.touches.items k (omega arith) ∙ sym (no_touch globals s k (omega arith));
      count = omega arith;
      below = λ k b o c. absurd (false≢true (sym (ap (λ t. covers t b o) (no_touch globals s k (omega arith))) ∙ c));
      blocks = blocks;
    })

-- what a thread of a machine touches
pub touch_is :
    (g h : List GlobalDef) (xs ys : List (Option KeptThread)) (m : List Block) (n : ℕ) (t : Touched) → g ≡ h → xs ≡ ys → t ≡ touch_at g (system_of xs m) n →
    t ≡ touch_at h (system_of ys m) n
touch_is g h xs ys m n t e f is = is ∙ ap₂ (λ x y. touch_at x (system_of y m) n) e f
