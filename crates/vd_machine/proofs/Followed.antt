-- An index after a turn.
use Rattle.std.proofs.Common.{◌≡◌, ℕ, ◌+◌, ◌<◌, ◌≤◌, Bool, true, cond, List, [], length, refl, sym, ◌∙◌, ap, subst, arith, ◌⊎◌, inl, inr}
use Rattle.std.specs.Prelude.{slice_get, IfSome, Option, Some, None}
use Rattle.std.proofs.lemmas.Bool.{eq-eqb, ne_eqb, cases_eq, cases_order, false≢true}
use Rattle.vd_clight.specs.declared.program.GlobalDef.{GlobalDef}
use Rattle.vd_clight.specs.declared.program.Program.{Program}
use Rattle.vd_clight.specs.declared.typed.TypedFn.{TypedFn}
use Rattle.vd_machine.specs.declared.answer.End.{End}
use Rattle.vd_machine.specs.declared.answer.End.TheVariants as finish
use Rattle.vd_machine.specs.declared.answer.Stepped.{Stepped}
use Rattle.vd_machine.specs.declared.answer.Stepped.TheVariants as stepped
use Rattle.vd_machine.specs.declared.touch.Touched.{Touched}
use Rattle.vd_machine.specs.declared.watch.Watch.{Watch}
use Rattle.vd_machine.specs.Machine.{Machine, started, answered, turned, turned_at}
use Rattle.vd_machine.specs.Race.{Races}
use Rattle.vd_machine.specs.Rivals.{touch_at}
use Rattle.vd_machine.specs.Run.{Turned, Next, Waiting, Resting, Finished, Failed, turn}
use Rattle.vd_machine.specs.Start.{first_threads}
use Rattle.vd_machine.specs.Thread.{System}
use Rattle.vd_machine.specs.Touches.{nothing, thread_touch, covers, Clashes}
use Rattle.vd_machine.specs.Watching.{touch_in, IsNoted, IsIndex, IsWith, Enters, Joins, Watches, Follows, IsCalm, Followed, IsStill, IsWatched}
use Rattle.vd_machine.proofs.Calm.{calm_after}
use Rattle.vd_machine.proofs.Growth.{turn_keeps}
use Rattle.vd_machine.proofs.Noted.{none_in}
use Rattle.vd_machine.proofs.Spawning.{turn_others, turn_threads, threads_stay}
use Rattle.vd_machine.proofs.Watched.{no_touch, watches_first}

-- the touch that was noted, and those of the others
pub noted_here : (ts us : List Touched) (n : ℕ) (t : Touched) → IsNoted ts n t us → touch_in us n ≡ t
noted_here ts us n t h = h.touches n ∙ ap (λ x. cond x t (touch_in ts n)) (eq-eqb n n refl)

noted_other : (ts us : List Touched) (n k : ℕ) (t : Touched) → IsNoted ts n t us → (k ≡ n → ⊥) → touch_in us k ≡ touch_in ts k
noted_other ts us n k t h ne = h.touches k ∙ ap (λ x. cond x t (touch_in ts k)) (ne_eqb n k (λ e. ne (sym e)))

-- an index with the next thread, where there is one; n is how many threads it had
record Joined (globals : List GlobalDef) (s : System) (v : Watch) (n : ℕ) (w : Watch) : Type 0 where
  pub index : IsIndex w
  pub here : touch_in w.touches.items n ≡ touch_at globals s n
  pub other : (k : ℕ) → (k ≡ n → ⊥) → touch_in w.touches.items k ≡ touch_in v.touches.items k
  pub count : length w.touches.items ≡ length s.threads
  pub blocks : w.blocks ≡ v.blocks
  pub apart : (k b o : ℕ) → Clashes (touch_at globals s n) (touch_in v.touches.items k) s.memory b o → ⊥
  pub below : (b o : ℕ) → covers (touch_at globals s n) b o ≡ true → b < v.blocks

joined :
    (globals : List GlobalDef) (s : System) (v w : Watch) (n : ℕ) → IsIndex v → n ≡ length v.touches.items → n ≤ length s.threads → length s.threads ≤ n + 1 → Joins globals s v w →
    Joined globals s v n w
joined globals s v w n index is least most (inl (l, e)) =
    let f : Enters globals s v n w = subst (λ x. Enters globals s v x w) (sym is) e in
    let count = f.added.noted.count in
    record {
      index = f.added.index;
      here = noted_here v.touches.items w.touches.items n (touch_at globals s n) f.added.noted;
      other = λ k ne. noted_other v.touches.items w.touches.items n k (touch_at globals s n) f.added.noted ne;
      count = omega arith;
      blocks = f.blocks;
      apart = f.apart;
      below = f.below;
    }
joined globals s v w n index is least most (inr (l, e)) =
    let gone : touch_at globals s n ≡ nothing = no_touch globals s n (omega arith) in
    record {
      index = subst IsIndex (sym e) index;
      here = ap (λ x. touch_in x.touches.items n) e ∙ none_in v.touches.items n (omega arith) ∙ sym gone;
      other = λ k ne. ap (λ x. touch_in x.touches.items k) e;
      count = ap (λ x. length x.touches.items) e ∙ omega arith;
      blocks = ap (λ x. x.blocks) e;
      apart = λ k b o c. false≢true (sym (ap (λ t. covers t b o) gone) ∙ c.0.0);
      below = λ b o c. absurd (false≢true (sym (ap (λ t. covers t b o) gone) ∙ c));
    }

-- the thread's touch is taken out, the new thread comes in, and then the thread again
pub followed :
    (globals : List GlobalDef) (s : System) (v v' v'' w : Watch) (n : ℕ) → Follows globals s v n → n < length v.touches.items → IsWith v n nothing v' →
    v.blocks ≤ v'.blocks → v'.blocks ≤ length s.memory → Joins globals s v' v'' → Enters globals s v'' n w → Followed globals s v n w
followed globals s v v' v'' w n f l out more blocks join e =
    let a = f.least in
    let c = e.added.noted.count in
    let d = j.count in
    let h = j.blocks in
    let i = e.blocks in
    record {
      watches = record {
        index = e.added.index;
        touches = λ k. all k (cases_eq k n);
        count = omega arith;
        below = λ k b o x. under k b o x (cases_eq k n);
        blocks = omega arith;
      };
      calm = record {
        one = λ k b o ne but x. e.apart k b o (subst (λ t. Clashes (touch_at globals s n) t s.memory b o) (sym (rest k ne)) x);
        made = λ k b o ne but x. j.apart k b o (subst (λ t. Clashes (touch_at globals s m) t s.memory b o) (sym (without k but ∙ old k but ne)) x);
      };
    }
  where
    m : ℕ
    m = length v.touches.items

    same : m ≡ length v'.touches.items
    same = let c = out.noted.count in omega arith

    j : Joined globals s v' m v''
    j = joined globals s v' v'' m out.index same f.least f.most join

    without : (k : ℕ) → (k ≡ n → ⊥) → touch_in v'.touches.items k ≡ touch_in v.touches.items k
    without k ne = noted_other v.touches.items v'.touches.items n k nothing out.noted ne

    old : (k : ℕ) → (k ≡ n → ⊥) → (k ≡ m → ⊥) → touch_in v.touches.items k ≡ touch_at globals s k
    old k ne nm = by_order (cases_order k m)
      where
        by_order : (k ≡ m) ⊎ ((k < m) ⊎ (m < k)) → touch_in v.touches.items k ≡ touch_at globals s k
        by_order (inl q) = absurd (nm q)
        by_order (inr (inl q)) = f.touches k ne q
        by_order (inr (inr q)) = let most = f.most in none_in v.touches.items k (omega arith) ∙ sym (no_touch globals s k (omega arith))

    rest : (k : ℕ) → (k ≡ n → ⊥) → touch_in v''.touches.items k ≡ touch_at globals s k
    rest k ne = by_number (cases_eq k m)
      where
        by_number : (k ≡ m) ⊎ (k ≡ m → ⊥) → touch_in v''.touches.items k ≡ touch_at globals s k
        by_number (inl q) = ap (λ x. touch_in v''.touches.items x) q ∙ j.here ∙ ap (λ x. touch_at globals s x) (sym q)
        by_number (inr nm) = j.other k nm ∙ without k ne ∙ old k ne nm

    all : (k : ℕ) → (k ≡ n) ⊎ (k ≡ n → ⊥) → touch_in w.touches.items k ≡ touch_at globals s k
    all k (inl q) =
        ap (λ x. touch_in w.touches.items x) q ∙ noted_here v''.touches.items w.touches.items n (touch_at globals s n) e.added.noted ∙ ap (λ x. touch_at globals s x) (sym q)
    all k (inr ne) = noted_other v''.touches.items w.touches.items n k (touch_at globals s n) e.added.noted ne ∙ rest k ne

    under : (k b o : ℕ) → covers (touch_at globals s k) b o ≡ true → (k ≡ n) ⊎ (k ≡ n → ⊥) → b < w.blocks
    under k b o x (inl q) =
        let y = e.below b o (subst (λ i. covers (touch_at globals s i) b o ≡ true) q x) in
        let z = e.blocks in
        omega arith
    under k b o x (inr ne) = by_number (cases_eq k m)
      where
        by_number : (k ≡ m) ⊎ (k ≡ m → ⊥) → b < w.blocks
        by_number (inl q) =
            let y = j.below b o (subst (λ i. covers (touch_at globals s i) b o ≡ true) q x) in
            let z = e.blocks in
            let u = j.blocks in
            omega arith
        by_number (inr nm) =
            let y = f.below k b o (subst (λ t. covers t b o ≡ true) (sym (old k ne nm)) x) in
            let z = e.blocks in
            let u = j.blocks in
            omega arith

-- what an index of a state is to the state after a turn
pub follows :
    (p : Program) (n : ℕ) (pick : Bool) (s s' : System) (v : Watch) → Next s' ≡ turn p n pick s → Watches p.globals s v → Follows p.globals s' v n
follows p n pick s s' v e w =
    let count = w.count in
    let stay = threads_stay p n pick s s' e in
    let few = turn_threads p n pick s s' e in
    let kept = turn_keeps p n pick s s' e in
    let fit = w.blocks in
    record {
      index = w.index;
      touches = λ k ne l. w.touches k ∙ sym (ap (λ x. thread_touch p.globals x) (turn_others p n pick s s' e k ne (omega arith)));
      least = omega arith;
      most = omega arith;
      below = λ k b o c. w.below k b o (subst (λ t. covers t b o ≡ true) (w.touches k) c);
      blocks = omega arith;
    }

-- a machine's step that moves
next_of : (r : Turned) (n : ℕ) (w w' : Machine) → (stepped.Moved, w') ≡ answered r n w → (Next w'.system ≡ r) × (w'.program ≡ w.program)
next_of (Next s) n w w' h = (ap (λ x. Next x.1.system) h, ap (λ x. x.1.program) h)
next_of Waiting n w w' h = let k : stepped.Moved ≡ stepped.Blocked = ap (λ x. x.0) h in absurd cc
next_of Resting n w w' h = let k : stepped.Moved ≡ stepped.Idle = ap (λ x. x.0) h in absurd cc
next_of (Finished v) n w w' h = let k : stepped.Moved ≡ stepped.Finished v = ap (λ x. x.0) h in absurd cc
next_of (Failed c) n w w' h = let k : stepped.Moved ≡ stepped.Stuck n c = ap (λ x. x.0) h in absurd cc

moved_at : (e : End) (w w' : Machine) (n : ℕ) (pick : Bool) → (stepped.Moved, w') ≡ turned_at e w n pick → (Next w'.system ≡ turn w.program n pick w.system) × (w'.program ≡ w.program)
moved_at finish.Open w w' n pick h = next_of (turn w.program n pick w.system) n w w' h
moved_at (finish.Main v) w w' n pick h = let k : stepped.Moved ≡ stepped.Idle = ap (λ x. x.0) h in absurd cc
moved_at (finish.Stuck m c) w w' n pick h = let k : stepped.Moved ≡ stepped.Idle = ap (λ x. x.0) h in absurd cc

pub moved_next : (w w' : Machine) (n : ℕ) (pick : Bool) → (stepped.Moved, w') ≡ turned w n pick → (Next w'.system ≡ turn w.program n pick w.system) × (w'.program ≡ w.program)
moved_next w w' n pick h = moved_at w.finish w w' n pick h

-- one that does not move, and ends nothing
blocked_of : (r : Turned) (n : ℕ) (w w' : Machine) → (stepped.Blocked, w') ≡ answered r n w → w' ≡ w
blocked_of (Next s) n w w' h = let k : stepped.Blocked ≡ stepped.Moved = ap (λ x. x.0) h in absurd cc
blocked_of Waiting n w w' h = ap (λ x. x.1) h
blocked_of Resting n w w' h = ap (λ x. x.1) h
blocked_of (Finished v) n w w' h = let k : stepped.Blocked ≡ stepped.Finished v = ap (λ x. x.0) h in absurd cc
blocked_of (Failed c) n w w' h = let k : stepped.Blocked ≡ stepped.Stuck n c = ap (λ x. x.0) h in absurd cc

idle_of : (r : Turned) (n : ℕ) (w w' : Machine) → (stepped.Idle, w') ≡ answered r n w → w' ≡ w
idle_of (Next s) n w w' h = let k : stepped.Idle ≡ stepped.Moved = ap (λ x. x.0) h in absurd cc
idle_of Waiting n w w' h = ap (λ x. x.1) h
idle_of Resting n w w' h = ap (λ x. x.1) h
idle_of (Finished v) n w w' h = let k : stepped.Idle ≡ stepped.Finished v = ap (λ x. x.0) h in absurd cc
idle_of (Failed c) n w w' h = let k : stepped.Idle ≡ stepped.Stuck n c = ap (λ x. x.0) h in absurd cc

blocked_at : (e : End) (w w' : Machine) (n : ℕ) (pick : Bool) → (stepped.Blocked, w') ≡ turned_at e w n pick → w' ≡ w
blocked_at finish.Open w w' n pick h = blocked_of (turn w.program n pick w.system) n w w' h
blocked_at (finish.Main v) w w' n pick h = ap (λ x. x.1) h
blocked_at (finish.Stuck m c) w w' n pick h = ap (λ x. x.1) h

idle_at : (e : End) (w w' : Machine) (n : ℕ) (pick : Bool) → (stepped.Idle, w') ≡ turned_at e w n pick → w' ≡ w
idle_at finish.Open w w' n pick h = idle_of (turn w.program n pick w.system) n w w' h
idle_at (finish.Main v) w w' n pick h = ap (λ x. x.1) h
idle_at (finish.Stuck m c) w w' n pick h = ap (λ x. x.1) h

pub blocked_same : (w w' : Machine) (n : ℕ) (pick : Bool) → (stepped.Blocked, w') ≡ turned w n pick → w' ≡ w
blocked_same w w' n pick h = blocked_at w.finish w w' n pick h

pub idle_same : (w w' : Machine) (n : ℕ) (pick : Bool) → (stepped.Idle, w') ≡ turned w n pick → w' ≡ w
idle_same w w' n pick h = idle_at w.finish w w' n pick h

-- the index of a machine that stays as it was
pub still_same : (w w' : Machine) (v : Watch) → w' ≡ w → Watches w.program.globals w.system v → IsStill w w' v
still_same w w' v e h = subst (λ x. IsStill w x v) (sym e) (record { watches = h; calm = λ none r. none r })

-- what an index is to a machine that moved
pub follows_moved : (w w' : Machine) (n : ℕ) (pick : Bool) (v : Watch) → (stepped.Moved, w') ≡ turned w n pick → Watches w.program.globals w.system v → Follows w'.program.globals w'.system v n
follows_moved w w' n pick v h k =
    let m = moved_next w w' n pick h in
    subst (λ q. Follows q.globals w'.system v n) (sym m.1) (follows w.program n pick w.system w'.system v m.0 k)

pub still_moved :
    (w w' : Machine) (n : ℕ) (pick : Bool) (v u : Watch) → (stepped.Moved, w') ≡ turned w n pick → Watches w.program.globals w.system v →
    Followed w'.program.globals w'.system v n u → IsStill w w' u
still_moved w w' n pick v u h k f =
    let m = moved_next w w' n pick h in
    let g : IsCalm w.program.globals w'.system n (length w.system.threads) =
    subst (λ x. IsCalm w.program.globals w'.system n x) k.count (subst (λ q. IsCalm q.globals w'.system n (length v.touches.items)) m.1 f.calm) in
    let fit = k.blocks in
    record {
      watches = f.watches;
      calm = λ none r.
          calm_after w.program n pick w.system w'.system m.0 (λ i b o c. let l = k.below i b o c in omega arith) g none
          (subst (λ q. Races q.globals w'.system) m.1 r);
    }

-- what a step needs and gives, by what it did
pub follows_if :
    (w w' : Machine) (a : Stepped) (n : ℕ) (pick : Bool) (o : Option Watch) (v : Watch) → (a, w') ≡ turned w n pick → IfSome o (Watches w.program.globals w.system) → o ≡ Some v →
    a ≡ stepped.Moved → Follows w'.program.globals w'.system v n
follows_if w w' a n pick o v h k e is =
    follows_moved w w' n pick v (subst (λ x. (x, w') ≡ turned w n pick) is h) (subst (λ x. IfSome x (Watches w.program.globals w.system)) e k)

still_one :
    (w w' : Machine) (a : Stepped) (n : ℕ) (pick : Bool) (v u : Watch) → (a, w') ≡ turned w n pick → Watches w.program.globals w.system v → IsWatched w' a v n u → IsStill w w' u
still_one w w' stepped.Moved n pick v u h k f = still_moved w w' n pick v u h k f
still_one w w' stepped.Blocked n pick v u h k f = subst (λ x. IsStill w w' x) (sym f) (still_same w w' v (blocked_same w w' n pick h) k)
still_one w w' stepped.Idle n pick v u h k f = subst (λ x. IsStill w w' x) (sym f) (still_same w w' v (idle_same w w' n pick h) k)
still_one w w' (stepped.Finished x) n pick v u h k f = absurd f
still_one w w' (stepped.Stuck m c) n pick v u h k f = absurd f

pub still_if :
    (w w' : Machine) (a : Stepped) (n : ℕ) (pick : Bool) (o r : Option Watch) (v : Watch) → (a, w') ≡ turned w n pick → IfSome o (Watches w.program.globals w.system) → o ≡ Some v →
    IfSome r (IsWatched w' a v n) → IfSome r (IsStill w w')
still_if w w' a n pick o None v h k e f = tt
still_if w w' a n pick o (Some u) v h k e f = still_one w w' a n pick v u h (subst (λ x. IfSome x (Watches w.program.globals w.system)) e k) f

-- the last part of following a turn
pub followed_if :
    (globals : List GlobalDef) (s : System) (v v' : Watch) (o r : Option Watch) (u : Watch) (n : ℕ) → Follows globals s v n → n < length v.touches.items → IsWith v n nothing v' →
    v.blocks ≤ v'.blocks → v'.blocks ≤ length s.memory → IfSome o (Joins globals s v') → o ≡ Some u → IfSome r (Enters globals s u n) → IfSome r (Followed globals s v n)
followed_if globals s v v' o None u n f l out more blocks join e h = tt
followed_if globals s v v' o (Some w) u n f l out more blocks join e h = followed globals s v v' u w n f l out more blocks (subst (λ x. IfSome x (Joins globals s v')) e join) h

-- the index of a program's first state
pub watches_if :
    (globals : List GlobalDef) (s : System) (v : Watch) (o : Option Watch) → length s.threads ≤ 1 → IsIndex v → v.touches.items ≡ [] → v.blocks ≤ length s.memory → IfSome o (Joins globals s v) →
    IfSome o (Watches globals s)
watches_if globals s v None few index empty blocks h = tt
watches_if globals s v (Some w) few index empty blocks h = watches_first globals s v w few index empty blocks h

-- a program starts with main's thread alone
first_few : (f : Option TypedFn) → length (first_threads f) ≤ 1
first_few None = omega arith
first_few (Some f) = omega arith

pub one_thread : (p : Program) (w : Machine) → w ≡ started p → length w.system.threads ≤ 1
one_thread p w e = subst (λ x. length x.system.threads ≤ 1) (sym e) (first_few (slice_get p.fns p.main))
