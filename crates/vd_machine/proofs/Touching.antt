-- The touches of a statement are those of the definition.
use Rattle.std.proofs.Common.{◌≡◌, ℕ, ◌<◌, Bool, true, false, ◌||◌, List, Option, Some, None, Ok, Err, refl, ◌∙◌, ap, ap₂, ◌⊎◌, inl, inr}
use Rattle.std.specs.Prelude.{IsSome, slice_get}
use Rattle.std.proofs.lemmas.Bool.{and_parts, and_from, or_cases, or_left, or_right, eqb-true, eq-eqb, false≢true}
use Rattle.vd_clight.specs.declared.program.GlobalDef.{GlobalDef}
use Rattle.vd_clight.specs.declared.typed.TStmt.{TStmt, TStmt-F}
use Rattle.vd_clight.specs.declared.typed.TStmt.TheOpen as statement
use Rattle.vd_clight.specs.declared.typed.LockOp.TheVariants as lock
use Rattle.vd_clight.specs.declared.typed.Cond.{Cond}
use Rattle.vd_clight.specs.declared.typed.Cond.TheVariants as condition
use Rattle.vd_mem.specs.declared.value.Value.TheVariants.{Undef, Int, Ptr}
use Rattle.vd_mem.specs.Memory.{Block, cell_at}
use Rattle.vd_machine.specs.declared.touch.Touched.{Touched}
use Rattle.vd_machine.specs.Arithmetic.{Evaluated}
use Rattle.vd_machine.specs.Evaluation.{Temps, eval, address}
use Rattle.vd_machine.specs.Race.{IsAt, IsIn, TestLooksAt, LooksAt, Writes, ThreadLooksAt, ThreadWrites, RaceAt}
use Rattle.vd_machine.specs.Rivals.{touch_at}
use Rattle.vd_machine.specs.Thread.{Thread, Ended, Running, System, next}
use Rattle.vd_machine.specs.Touches.{spot_of, block_of, nothing, at_spot, test_touch, statement_touch, thread_touch, is_at, is_in, covers, AreBoth, Clashes}

-- what is looked at and what is written are the cells of a touch
record Agrees (t : Touched) (L W : ℕ → ℕ → Type 0) (m : List Block) : Type 0 where
  pub looks : (b o : ℕ) → L b o → (covers t b o ≡ true) × IsSome (cell_at m b o)
  pub writes : (b o : ℕ) → W b o → (covers t b o ≡ true) × (IsSome (cell_at m b o) × (t.writes ≡ true))
  pub back : (b o : ℕ) → covers t b o ≡ true → IsSome (cell_at m b o) → L b o ⊎ W b o
  pub written : (b o : ℕ) → covers t b o ≡ true → IsSome (cell_at m b o) → t.writes ≡ true → W b o

at_value : (r : Evaluated) (b o : ℕ) → r ≡ Ok (Ptr b o) → is_at (spot_of r) b o ≡ true
at_value r b o e = ap (λ x. is_at (spot_of x) b o) e ∙ and_from _ _ (eq-eqb b b refl) (eq-eqb o o refl)

value_at : (r : Evaluated) (b o : ℕ) → is_at (spot_of r) b o ≡ true → r ≡ Ok (Ptr b o)
value_at (Err c) b o h = absurd (false≢true h)
value_at (Ok Undef) b o h = absurd (false≢true h)
value_at (Ok (Int a)) b o h = absurd (false≢true h)
value_at (Ok (Ptr c p)) b o h = let k = and_parts _ _ h in ap₂ (λ x y. Ok (Ptr x y)) (eqb-true c b k.0) (eqb-true p o k.1)

in_value : (r : Evaluated) (b p : ℕ) → r ≡ Ok (Ptr b p) → is_in (block_of (spot_of r)) b ≡ true
in_value r b p e = ap (λ x. is_in (block_of (spot_of x)) b) e ∙ eq-eqb b b refl

value_in : (r : Evaluated) (b : ℕ) → is_in (block_of (spot_of r)) b ≡ true → (p : ℕ) × (r ≡ Ok (Ptr b p))
value_in (Err c) b h = absurd (false≢true h)
value_in (Ok Undef) b h = absurd (false≢true h)
value_in (Ok (Int a)) b h = absurd (false≢true h)
value_in (Ok (Ptr c p)) b h = (p, ap (λ x. Ok (Ptr x p)) (eqb-true c b h))

or_none : (x : Bool) → (x || (false || false)) ≡ true → x ≡ true
or_none true h = refl
or_none false h = h

first_or_second : (x y : Bool) → (x || (y || false)) ≡ true → (x ≡ true) ⊎ (y ≡ true)
first_or_second true y h = inl refl
first_or_second false true h = inr refl
first_or_second false false h = absurd (false≢true h)

agrees_nothing : (m : List Block) → Agrees nothing (λ b o. ⊥) (λ b o. ⊥) m
agrees_nothing m = record {
  looks = λ b o h. absurd h;
  writes = λ b o h. absurd h;
  back = λ b o c l. absurd (false≢true c);
  written = λ b o c l w. absurd (false≢true c);
}

agrees_look : (m : List Block) (r : Evaluated) → Agrees (at_spot false (spot_of r)) (IsAt r m) (λ b o. ⊥) m
agrees_look m r = record {
  looks = λ b o h. (or_left (is_at (spot_of r) b o) _ (at_value r b o h.0), h.1);
  writes = λ b o h. absurd h;
  back = λ b o c l. inl (value_at r b o (or_none (is_at (spot_of r) b o) c), l);
  written = λ b o c l w. absurd (false≢true w);
}

agrees_write : (m : List Block) (r : Evaluated) → Agrees (at_spot true (spot_of r)) (λ b o. ⊥) (IsAt r m) m
agrees_write m r = record {
  looks = λ b o h. absurd h;
  writes = λ b o h. (or_left (is_at (spot_of r) b o) _ (at_value r b o h.0), (h.1, refl));
  back = λ b o c l. inr (value_at r b o (or_none (is_at (spot_of r) b o) c), l);
  written = λ b o c l w. (value_at r b o (or_none (is_at (spot_of r) b o) c), l);
}

agrees_free : (m : List Block) (r : Evaluated) → Agrees (record { first = None; second = None; block = block_of (spot_of r); writes = true }) (λ b o. ⊥) (IsIn r m) m
agrees_free m r = record {
  looks = λ b o h. absurd h;
  writes = λ b o h. (in_value r b h.0 h.1, (h.2, refl));
  back = λ b o c l. let k = value_in r b c in inr (k.0, k.1, l);
  written = λ b o c l w. let k = value_in r b c in (k.0, k.1, l);
}

looks_back : (m : List Block) (r q : Evaluated) (b o : ℕ) → (is_at (spot_of r) b o ≡ true) ⊎ (is_at (spot_of q) b o ≡ true) → IsSome (cell_at m b o) → IsAt r m b o ⊎ IsAt q m b o
looks_back m r q b o (inl h) l = inl (value_at r b o h, l)
looks_back m r q b o (inr h) l = inr (value_at q b o h, l)

looks_to : (m : List Block) (r q : Evaluated) (b o : ℕ) → IsAt r m b o ⊎ IsAt q m b o → ((is_at (spot_of r) b o || (is_at (spot_of q) b o || false)) ≡ true) × IsSome (cell_at m b o)
looks_to m r q b o (inl h) = (or_left (is_at (spot_of r) b o) _ (at_value r b o h.0), h.1)
looks_to m r q b o (inr h) = (or_right (is_at (spot_of r) b o) _ (or_left (is_at (spot_of q) b o) false (at_value q b o h.0)), h.1)

agrees_test : (globals : List GlobalDef) (t : Temps) (m : List Block) (c : Cond) → Agrees (test_touch globals t c) (TestLooksAt globals c t m) (λ b o. ⊥) m
agrees_test globals t m (condition.Int k e) = agrees_nothing m
agrees_test globals t m (condition.Same d e flag) = record {
  looks = λ b o h. looks_to m (eval globals t d) (eval globals t e) b o h;
  writes = λ b o h. absurd h;
  back = λ b o c l. inl (looks_back m (eval globals t d) (eval globals t e) b o (first_or_second (is_at (spot_of (eval globals t d)) b o) (is_at (spot_of (eval globals t e)) b o) c) l);
  written = λ b o c l w. absurd (false≢true w);
}

agrees : (globals : List GlobalDef) (t : Temps) (m : List Block) (s : TStmt-F TStmt) → Agrees (statement_touch globals t s) (LooksAt globals s t m) (Writes globals s t m) m
agrees globals t m statement.Skip = agrees_nothing m
agrees globals t m (statement.Set x e) = agrees_nothing m
agrees globals t m (statement.Load x l) = agrees_look m (address globals t l)
agrees globals t m (statement.Store l e) = agrees_write m (address globals t l)
agrees globals t m (statement.Call x f es) = agrees_nothing m
agrees globals t m (statement.Malloc x n) = agrees_nothing m
agrees globals t m (statement.Free e) = agrees_free m (eval globals t e)
agrees globals t m (statement.Lock lock.Make e) = agrees_write m (eval globals t e)
agrees globals t m (statement.Lock lock.Acquire e) = agrees_look m (eval globals t e)
agrees globals t m (statement.Lock lock.Release e) = agrees_look m (eval globals t e)
agrees globals t m (statement.Lock lock.Free e) = agrees_write m (eval globals t e)
agrees globals t m (statement.Spawn f e) = agrees_nothing m
agrees globals t m (statement.If c x y) = agrees_test globals t m c
agrees globals t m (statement.Loop s) = agrees_nothing m
agrees globals t m statement.Break = agrees_nothing m
agrees globals t m statement.Continue = agrees_nothing m
agrees globals t m (statement.Return e) = agrees_nothing m

thread_agrees : (globals : List GlobalDef) (m : List Block) (t : Option Thread) → Agrees (thread_touch globals t) (ThreadLooksAt globals t m) (ThreadWrites globals t m) m
thread_agrees globals m None = agrees_nothing m
thread_agrees globals m (Some Ended) = agrees_nothing m
thread_agrees globals m (Some (Running fr cs)) = agrees globals (next fr).frame.temps m (next fr).statement

touched : (t : Touched) (L W : ℕ → ℕ → Type 0) (m : List Block) → Agrees t L W m → (b o : ℕ) → L b o ⊎ W b o → (covers t b o ≡ true) × IsSome (cell_at m b o)
touched t L W m a b o (inl h) = a.looks b o h
touched t L W m a b o (inr h) = let k = a.writes b o h in (k.0, k.1.0)

one_writes : (t u : Touched) (L W K V : ℕ → ℕ → Type 0) (m : List Block) → Agrees t L W m → Agrees u K V m → (b o : ℕ) → W b o ⊎ V b o → (t.writes || u.writes) ≡ true
one_writes t u L W K V m a c b o (inl h) = or_left t.writes u.writes (a.writes b o h).1.1
one_writes t u L W K V m a c b o (inr h) = or_right t.writes u.writes (c.writes b o h).1.1

who_writes : (t u : Touched) (L W K V : ℕ → ℕ → Type 0) (m : List Block) → Agrees t L W m → Agrees u K V m → (b o : ℕ) → AreBoth t u m b o → (t.writes ≡ true) ⊎ (u.writes ≡ true) → W b o ⊎ V b o
who_writes t u L W K V m a c b o h (inl w) = inl (a.written b o h.0 h.1.1 w)
who_writes t u L W K V m a c b o h (inr w) = inr (c.written b o h.1.0 h.1.1 w)

pub race_clashes :
    (globals : List GlobalDef) (s : System) (n k b o : ℕ) → RaceAt globals s n k b o → Clashes (touch_at globals s n) (touch_at globals s k) s.memory b o
race_clashes globals s n k b o h =
    let a = thread_agrees globals s.memory (slice_get s.threads n) in
    let c = thread_agrees globals s.memory (slice_get s.threads k) in
    let x = touched _ _ _ s.memory a b o h.1.0 in
    let y = touched _ _ _ s.memory c b o h.1.1.0 in
    ((x.0, (y.0, x.1)), one_writes _ _ _ _ _ _ s.memory a c b o h.1.1.1)

pub clash_races :
    (globals : List GlobalDef) (s : System) (n k b o : ℕ) → n < k → Clashes (touch_at globals s n) (touch_at globals s k) s.memory b o → RaceAt globals s n k b o
clash_races globals s n k b o l h =
    let a = thread_agrees globals s.memory (slice_get s.threads n) in
    let c = thread_agrees globals s.memory (slice_get s.threads k) in
    (l, (a.back b o h.0.0 h.0.1.1, (c.back b o h.0.1.0 h.0.1.1, who_writes _ _ _ _ _ _ s.memory a c b o h.0 (or_cases _ _ h.1))))
