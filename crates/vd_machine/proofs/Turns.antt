-- A turn of one thread among others, by what its step did.
use Rattle.std.proofs.Common.{◌≡◌, ◌≢◌, ℕ, zero, suc, ◌<◌, Bool, List, [], ◌∷◌, ◌++◌, length, get_or, slice_set, map, Option, Some, None, refl, sym, ◌∙◌, ap, ap₂, arith}
use Rattle.std.specs.Prelude.{slice_get, Result, Ok, Err, OnErr}
use Rattle.std.specs.Option.{option_map}
use Rattle.std.proofs.lemmas.List.{length-map, length-set}
use Rattle.std.proofs.lemmas.Option.{slice_get_read, slice_get-map}
use Rattle.vd_clight.specs.declared.program.Program.{Program}
use Rattle.vd_mem.specs.declared.value.Value.{Value}
use Rattle.vd_mem.specs.Memory.{Block}
use Rattle.vd_machine.specs.declared.answer.Cause.{Cause}
use Rattle.vd_machine.specs.declared.frame.Thread.{Thread as KeptThread}
use Rattle.vd_machine.specs.Kept.{slot_of, thread_of, step_of}
use Rattle.vd_machine.specs.Run.{Next, Waiting, Resting, Finished, Failed, turn, turn_of, after_step, set_thread}
use Rattle.vd_machine.specs.Step.{Moved, Forked, Blocked, Over, Wrong}
use Rattle.vd_machine.specs.Thread.{Thread, Ended}
use Rattle.vd_machine.specs.Turns.{system_of}

set-map : (xs : List (Option KeptThread)) (n : ℕ) (x : Option KeptThread) → map slot_of (slice_set xs n x) ≡ slice_set (map slot_of xs) n (slot_of x)
set-map [] n x = refl
set-map (y ∷ xs) zero x = refl
set-map (y ∷ xs) (suc n) x = ap (λ l. slot_of y ∷ l) (set-map xs n x)

set-set : (xs : List (Option KeptThread)) (n : ℕ) (x y : Option KeptThread) → slice_set (slice_set xs n x) n y ≡ slice_set xs n y
set-set [] n x y = refl
set-set (z ∷ xs) zero x y = refl
set-set (z ∷ xs) (suc n) x y = ap (λ l. z ∷ l) (set-set xs n x y)

set-same : (ts : List Thread) (n : ℕ) (t : Thread) → slice_get ts n ≡ Some t → slice_set ts n t ≡ ts
set-same [] n t e = refl
set-same (x ∷ ts) zero t e = let h : t ≡ x = cc in ap (λ y. y ∷ ts) h
set-same (x ∷ ts) (suc n) t e = ap (λ l. x ∷ l) (set-same ts n t e)

pub slot_at : (xs : List (Option KeptThread)) (n : ℕ) (x : Option KeptThread) → n < length xs → x ≡ get_or xs n x → slice_get (map slot_of xs) n ≡ Some (slot_of x)
slot_at xs n x l e = slice_get-map slot_of xs n ∙ ap (λ o. option_map slot_of o) (slice_get_read xs (length xs) n x refl l e)

pub turn_ended :
    (p : Program) (n : ℕ) (pick : Bool) (xs : List (Option KeptThread)) (m : List Block) → n < length xs → None ≡ get_or xs n None →
    Resting ≡ turn p n pick (system_of xs m)
turn_ended p n pick xs m l e = sym (ap (λ o. turn_of p o n pick (system_of xs m)) (slot_at xs n None l e))

turn_running :
    (p : Program) (n : ℕ) (pick : Bool) (xs : List (Option KeptThread)) (m : List Block) (t : KeptThread) → n < length xs → Some t ≡ get_or xs n (Some t) →
    turn p n pick (system_of xs m) ≡ after_step (step_of p pick (thread_of t) m) n (system_of xs m)
turn_running p n pick xs m t l e = ap (λ o. turn_of p o n pick (system_of xs m)) (slot_at xs n (Some t) l e)

pub turn_moved :
    (p : Program) (n : ℕ) (pick : Bool) (xs : List (Option KeptThread)) (m m' : List Block) (t u : KeptThread) → n < length xs → Some t ≡ get_or xs n (Some t) →
    Moved (thread_of u) m' ≡ step_of p pick (thread_of t) m → Next (system_of (slice_set xs n (Some u)) m') ≡ turn p n pick (system_of xs m)
turn_moved p n pick xs m m' t u l e h =
    ap (λ ts. Next (record { threads = ts; memory = m' })) (set-map xs n (Some u))
    ∙ ap (λ st. after_step st n (system_of xs m)) h ∙ sym (turn_running p n pick xs m t l e)

pub turn_blocked :
    (p : Program) (n : ℕ) (pick : Bool) (xs : List (Option KeptThread)) (m : List Block) (t : KeptThread) → n < length xs → Some t ≡ get_or xs n (Some t) →
    Blocked ≡ step_of p pick (thread_of t) m → Waiting ≡ turn p n pick (system_of xs m)
turn_blocked p n pick xs m t l e h = ap (λ st. after_step st n (system_of xs m)) h ∙ sym (turn_running p n pick xs m t l e)

pub turn_wrong :
    (p : Program) (n : ℕ) (pick : Bool) (xs : List (Option KeptThread)) (m : List Block) (t : KeptThread) (c : Cause) → n < length xs → Some t ≡ get_or xs n (Some t) →
    Wrong c ≡ step_of p pick (thread_of t) m → Failed c ≡ turn p n pick (system_of xs m)
turn_wrong p n pick xs m t c l e h = ap (λ st. after_step st n (system_of xs m)) h ∙ sym (turn_running p n pick xs m t l e)

ended_is : (xs : List (Option KeptThread)) (n : ℕ) (u : KeptThread) (m m' : List Block) → m' ≡ m →
    system_of (slice_set (slice_set xs n (Some u)) n None) m' ≡ set_thread (system_of xs m) n Ended
ended_is xs n u m m' e = ap₂ (λ ts b. record { threads = ts; memory = b }) (ap (λ l. map slot_of l) (set-set xs n (Some u) None) ∙ set-map xs n None) e

-- a return of a thread's last frame
pub turn_over :
    (p : Program) (n : ℕ) (pick : Bool) (xs : List (Option KeptThread)) (m m' : List Block) (t u : KeptThread) (v : Value) → n < length xs → Some t ≡ get_or xs n (Some t) →
    Over v ≡ step_of p pick (thread_of t) m → m' ≡ m → n ≢ 0 →
    Next (system_of (slice_set (slice_set xs n (Some u)) n None) m') ≡ turn p n pick (system_of xs m)
turn_over p zero pick xs m m' t u v l e h same ne = absurd (ne refl)
turn_over p (suc n) pick xs m m' t u v l e h same ne =
    ap (λ s. Next s) (ended_is xs (suc n) u m m' same) ∙ ap (λ st. after_step st (suc n) (system_of xs m)) h ∙ sym (turn_running p (suc n) pick xs m t l e)

pub turn_finished :
    (p : Program) (n : ℕ) (pick : Bool) (xs : List (Option KeptThread)) (m : List Block) (t : KeptThread) (v : Value) → n < length xs → Some t ≡ get_or xs n (Some t) →
    Over v ≡ step_of p pick (thread_of t) m → n ≡ 0 → Finished v ≡ turn p n pick (system_of xs m)
turn_finished p zero pick xs m t v l e h z = ap (λ st. after_step st 0 (system_of xs m)) h ∙ sym (turn_running p 0 pick xs m t l e)
turn_finished p (suc n) pick xs m t v l e h z = absurd (omega arith)

pub turn_forked :
    (p : Program) (n : ℕ) (pick : Bool) (xs ys : List (Option KeptThread)) (m m' : List Block) (t u new : KeptThread) → n < length xs → Some t ≡ get_or xs n (Some t) →
    Forked (thread_of u) (thread_of new) m' ≡ step_of p pick (thread_of t) m →
    map slot_of ys ≡ map slot_of (slice_set xs n (Some u)) ++ thread_of new ∷ [] → Next (system_of ys m') ≡ turn p n pick (system_of xs m)
turn_forked p n pick xs ys m m' t u new l e h all =
    ap (λ ts. Next (record { threads = ts; memory = m' })) (all ∙ ap (λ ts. ts ++ thread_of new ∷ []) (set-map xs n (Some u)))
    ∙ ap (λ st. after_step st n (system_of xs m)) h ∙ sym (turn_running p n pick xs m t l e)

-- a thread that stays as it was
pub stays :
    (xs : List (Option KeptThread)) (n : ℕ) (m m' : List Block) (t u : KeptThread) → n < length xs → Some t ≡ get_or xs n (Some t) →
    thread_of u ≡ thread_of t → m' ≡ m → system_of (slice_set xs n (Some u)) m' ≡ system_of xs m
stays xs n m m' t u l e same kept =
    ap₂ (λ ts b. record { threads = ts; memory = b })
    (set-map xs n (Some u) ∙ ap (λ th. slice_set (map slot_of xs) n th) same ∙ set-same (map slot_of xs) n (thread_of t) (slot_at xs n (Some t) l e)) kept

pub leaves_ended : (xs : List (Option KeptThread)) (n : ℕ) (u : KeptThread) (m m' : List Block) → m' ≡ m →
    system_of (slice_set (slice_set xs n (Some u)) n None) m' ≡ set_thread (system_of xs m) n Ended
leaves_ended = ended_is

-- a fact that holds holds of an error
pub on_err : {T E : Type 0} (r : Result T E) (P : Type 0) → P → OnErr r P
on_err (Ok x) P p = tt
on_err (Err e) P p = p

-- as many threads as before
pub count_same : (xs ys : List (Option KeptThread)) (m m' : List Block) → system_of ys m' ≡ system_of xs m → length ys ≡ length xs
count_same xs ys m m' e = sym (length-map ys slot_of) ∙ ap (λ s. length s.threads) e ∙ length-map xs slot_of

pub count_set : (xs ys : List (Option KeptThread)) (m m' : List Block) (n : ℕ) → system_of ys m' ≡ set_thread (system_of xs m) n Ended → length ys ≡ length xs
count_set xs ys m m' n e = sym (length-map ys slot_of) ∙ ap (λ s. length s.threads) e ∙ length-set (map slot_of xs) n Ended ∙ length-map xs slot_of
