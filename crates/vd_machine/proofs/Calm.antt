-- After a turn only the threads that it changed have to be looked at.
use Rattle.std.proofs.Common.{◌≡◌, ℕ, ◌<◌, ◌≤◌, Bool, true, false, ◌||◌, List, length, Option, Some, None, refl, sym, ◌∙◌, ap, subst, arith, ◌⊎◌, inl, inr}
use Rattle.std.specs.Prelude.{◌==◌}
use Rattle.std.proofs.lemmas.Bool.{and_parts, or_cases, or_parts, eqb-true, leb-false, cases_eq, cases_lt, false≢true}
use Rattle.vd_clight.specs.declared.program.GlobalDef.{GlobalDef}
use Rattle.vd_clight.specs.declared.program.Program.{Program}
use Rattle.vd_mem.specs.Memory.{Block}
use Rattle.vd_machine.specs.declared.answer.Spot.{Spot}
use Rattle.vd_machine.specs.declared.frame.Thread.{Thread as KeptThread}
use Rattle.vd_machine.specs.declared.touch.Touched.{Touched}
use Rattle.vd_machine.specs.Race.{Races}
use Rattle.vd_machine.specs.Rivals.{touch_at}
use Rattle.vd_machine.specs.Run.{Next, turn}
use Rattle.vd_machine.specs.Thread.{System}
use Rattle.vd_machine.specs.Touches.{thread_touch, is_at, is_in, covers, Clashes}
use Rattle.vd_machine.specs.Turns.{system_of}
use Rattle.vd_machine.specs.Watching.{spot_reaches, block_reaches, reaches, IsCalm}
use Rattle.vd_machine.proofs.Growth.{turn_lives}
use Rattle.vd_machine.proofs.Rivals.{absent, none_touched}
use Rattle.vd_machine.proofs.Spawning.{turn_others, turn_threads}
use Rattle.vd_machine.proofs.Touching.{race_clashes, clash_races}

-- a thread that is not there touches nothing
pub touches_none : (globals : List GlobalDef) (xs : List (Option KeptThread)) (m : List Block) (n : ℕ) → length (system_of xs m).threads ≤ n → touch_at globals (system_of xs m) n ≡ thread_touch globals None
touches_none globals xs m n l = ap (λ x. thread_touch globals x) (absent (system_of xs m).threads n l)

spot_beyond : (p : Option Spot) (n b o : ℕ) → spot_reaches p n ≡ false → n ≤ b → is_at p b o ≡ true → ⊥
spot_beyond None n b o e l h = false≢true h
spot_beyond (Some p) n b o e l h =
    let k = and_parts (p.block == b) (p.offset == o) h in
    let same : p.block ≡ b = eqb-true p.block b k.0 in
    let lt : p.block < n = leb-false n p.block e in
    omega arith

block_beyond : (p : Option ℕ) (n b : ℕ) → block_reaches p n ≡ false → n ≤ b → is_in p b ≡ true → ⊥
block_beyond None n b e l h = false≢true h
block_beyond (Some d) n b e l h =
    let same : d ≡ b = eqb-true d b h in
    let lt : d < n = leb-false n d e in
    omega arith

beyond_by : (t : Touched) (n b o : ℕ) → spot_reaches t.first n ≡ false → spot_reaches t.second n ≡ false → block_reaches t.block n ≡ false → n ≤ b →
    (is_at t.first b o ≡ true) ⊎ ((is_at t.second b o || is_in t.block b) ≡ true) → ⊥
beyond_by t n b o f g h l (inl x) = spot_beyond t.first n b o f l x
beyond_by t n b o f g h l (inr x) = rest (or_cases (is_at t.second b o) (is_in t.block b) x)
  where
    rest : (is_at t.second b o ≡ true) ⊎ (is_in t.block b ≡ true) → ⊥
    rest (inl y) = spot_beyond t.second n b o g l y
    rest (inr y) = block_beyond t.block n b h l y

-- a touch that does not reach a number is of blocks below it
pub beyond : (t : Touched) (n b o : ℕ) → reaches t n ≡ false → n ≤ b → covers t b o ≡ true → ⊥
beyond t n b o e l c =
    let k = or_parts (spot_reaches t.first n) (spot_reaches t.second n || block_reaches t.block n) e in
    let j = or_parts (spot_reaches t.second n) (block_reaches t.block n) k.1 in
    beyond_by t n b o k.0 j.0 j.1 l (or_cases (is_at t.first b o) (is_at t.second b o || is_in t.block b) c)

pub swapped : (t u : Touched) (m : List Block) (b o : ℕ) → Clashes t u m b o → Clashes u t m b o
swapped t u m b o h = ((h.0.1.0, (h.0.0, h.0.1.1)), either t.writes u.writes h.1)
  where
    either : (x y : Bool) → (x || y) ≡ true → (y || x) ≡ true
    either true true e = refl
    either true false e = refl
    either false true e = refl
    either false false e = e

-- a state that follows one without a race has none, where the threads that changed are calm and no other one had reached a block to come
pub calm_after :
    (p : Program) (n : ℕ) (pick : Bool) (s s' : System) → Next s' ≡ turn p n pick s → ((k b o : ℕ) → covers (touch_at p.globals s k) b o ≡ true → b < length s.memory) →
    IsCalm p.globals s' n (length s.threads) → (Races p.globals s → ⊥) → Races p.globals s' → ⊥
calm_after p n pick s s' e below calm none r = by_first (cases_eq r.first n)
  where
    j : ℕ
    j = r.first

    k : ℕ
    k = r.second

    clash_is : Clashes (touch_at p.globals s' j) (touch_at p.globals s' k) s'.memory r.block r.offset
    clash_is = race_clashes p.globals s' j k r.block r.offset r.race

    same : (i : ℕ) → (i ≡ n → ⊥) → i < length s.threads → touch_at p.globals s' i ≡ touch_at p.globals s i
    same i ne l = ap (λ x. thread_touch p.globals x) (turn_others p n pick s s' e i ne l)

    by_block : (j ≡ n → ⊥) → (k ≡ n → ⊥) → k < length s.threads → ⊥
    by_block nj nk l =
        let o = r.race.0 in
        let a = same j nj (omega arith) in
        let b = same k nk l in
        let both : Clashes (touch_at p.globals s j) (touch_at p.globals s k) s'.memory r.block r.offset =
        subst (λ x. Clashes x (touch_at p.globals s k) s'.memory r.block r.offset) a (subst (λ x. Clashes (touch_at p.globals s' j) x s'.memory r.block r.offset) b clash_is) in
        none (record {
          first = j;
          second = k;
          block = r.block;
          offset = r.offset;
          race = clash_races p.globals s j k r.block r.offset o (
            (both.0.0, (both.0.1.0, turn_lives p n pick s s' e r.block r.offset (below j r.block r.offset both.0.0) both.0.1.1)),
            both.1,
          );
        })

    by_new : (j ≡ n → ⊥) → (k ≡ n → ⊥) → length s.threads ≤ k → (k < length s'.threads) ⊎ (length s'.threads ≤ k) → ⊥
    by_new nj nk l (inl lt) =
        let o = r.race.0 in
        let m = turn_threads p n pick s s' e in
        let at : k ≡ length s.threads = omega arith in
        let c : Clashes (touch_at p.globals s' (length s.threads)) (touch_at p.globals s' j) s'.memory r.block r.offset =
        subst (λ x. Clashes (touch_at p.globals s' x) (touch_at p.globals s' j) s'.memory r.block r.offset) at
        (swapped (touch_at p.globals s' j) (touch_at p.globals s' k) s'.memory r.block r.offset clash_is) in
        calm.made j r.block r.offset (λ q. omega arith) nj c
    by_new nj nk l (inr ge) = false≢true (sym (none_touched p.globals s' k r.block r.offset ge) ∙ clash_is.0.1.0)

    by_age : (j ≡ n → ⊥) → (k ≡ n → ⊥) → (k < length s.threads) ⊎ (length s.threads ≤ k) → ⊥
    by_age nj nk (inl l) = by_block nj nk l
    by_age nj nk (inr l) = by_new nj nk l (cases_lt k (length s'.threads))

    by_second : (j ≡ n → ⊥) → (k ≡ n) ⊎ (k ≡ n → ⊥) → ⊥
    by_second nj (inl q) =
        calm.one j r.block r.offset nj nj
        (subst (λ x. Clashes (touch_at p.globals s' x) (touch_at p.globals s' j) s'.memory r.block r.offset) q
        (swapped (touch_at p.globals s' j) (touch_at p.globals s' k) s'.memory r.block r.offset clash_is))
    by_second nj (inr nk) = by_age nj nk (cases_lt k (length s.threads))

    by_first : (j ≡ n) ⊎ (j ≡ n → ⊥) → ⊥
    by_first (inl q) =
        let o = r.race.0 in
        calm.one k r.block r.offset (λ z. omega arith) (λ z. omega arith) (subst (λ x. Clashes (touch_at p.globals s' x) (touch_at p.globals s' k) s'.memory r.block r.offset) q clash_is)
    by_first (inr nj) = by_second nj (cases_eq k n)
