-- Runs, turn by turn.
use Rattle.std.proofs.Common.{◌≡◌, ℕ, zero, suc, ◌+◌, ◌-◌, ◌<◌, ◌≤◌, Bool, List, [], ◌∷◌, length, get_or, take, drop, Option, Some, None, refl, sym, ◌∙◌, ap, subst, arith, ◌⊎◌, inl, inr}
use Rattle.std.specs.Prelude.{IfSome, is_some, true}
use Rattle.std.proofs.lemmas.Bool.{cases_lt, false≢true}
use Rattle.std.proofs.lemmas.List.{length-map}
use Rattle.vd_clight.specs.declared.program.Program.{Program}
use Rattle.vd_machine.specs.declared.answer.Turn.{Turn}
use Rattle.vd_machine.specs.declared.answer.Spot.{Spot}
use Rattle.vd_machine.specs.declared.answer.End.{End}
use Rattle.vd_machine.specs.declared.answer.End.TheVariants as finish
use Rattle.vd_machine.specs.declared.answer.Stepped.{Stepped}
use Rattle.vd_machine.specs.declared.answer.Stepped.TheVariants as stepped
use Rattle.vd_machine.specs.declared.watch.Watch.{Watch}
use Rattle.vd_machine.specs.Along.{raced_after, IsRaceNow, IsNextRace, IsRaceUpTo, Along, end_by}
use Rattle.vd_machine.specs.Machine.{Machine, started, answered, turned, turned_at, moves_to, FoundRace, FirstRace, RunsTo}
use Rattle.vd_machine.specs.Race.{Races, LeastRace}
use Rattle.vd_machine.specs.Run.{Turned, Next, Waiting, Resting, Finished, Failed, Last, Open, turn, run_on, run, turns_on, turns, end_of}
use Rattle.vd_machine.specs.Start.{first_system, global_block}
use Rattle.vd_machine.specs.Thread.{System}
use Rattle.vd_machine.specs.Watching.{IsStill, Watches}
use Rattle.vd_machine.proofs.Walks.{drop_at}

-- a turn leads from a state to a state
abbrev LeadsTo : Turned → System → System → Type 0
LeadsTo (Next s') s t = t ≡ s'
LeadsTo Waiting s t = t ≡ s
LeadsTo Resting s t = t ≡ s
LeadsTo (Finished v) s t = ⊥
LeadsTo (Failed c) s t = ⊥

-- a turn ends the run so
abbrev EndsBy : Turned → ℕ → End → Type 0
EndsBy (Next s') n e = ⊥
EndsBy Waiting n e = ⊥
EndsBy Resting n e = ⊥
EndsBy (Finished v) n e = e ≡ finish.Main v
EndsBy (Failed c) n e = e ≡ finish.Stuck n c

run_leads : (r : Turned) (n : ℕ) (s t : System) (go : System → Last) → LeadsTo r s t → run_on r n s go ≡ go t
run_leads (Next s') n s t go h = ap go (sym h)
run_leads Waiting n s t go h = ap go (sym h)
run_leads Resting n s t go h = ap go (sym h)
run_leads (Finished v) n s t go h = absurd h
run_leads (Failed c) n s t go h = absurd h

turns_leads : (r : Turned) (s t : System) (go : System → ℕ) → LeadsTo r s t → turns_on r s go ≡ suc (go t)
turns_leads (Next s') s t go h = ap (λ x. suc (go x)) (sym h)
turns_leads Waiting s t go h = ap (λ x. suc (go x)) (sym h)
turns_leads Resting s t go h = ap (λ x. suc (go x)) (sym h)
turns_leads (Finished v) s t go h = absurd h
turns_leads (Failed c) s t go h = absurd h

run_ends : (r : Turned) (n : ℕ) (e : End) (s : System) (go : System → Last) → EndsBy r n e → end_of (run_on r n s go) ≡ e
run_ends (Next s') n e s go h = absurd h
run_ends Waiting n e s go h = absurd h
run_ends Resting n e s go h = absurd h
run_ends (Finished v) n e s go h = sym h
run_ends (Failed c) n e s go h = sym h

run_shut : (r : Turned) (n : ℕ) (e : End) (s t : System) (go : System → Last) → EndsBy r n e → run_on r n s go ≡ Open t → ⊥
run_shut (Next s') n e s t go h k = h
run_shut Waiting n e s t go h k = h
run_shut Resting n e s t go h k = h
run_shut (Finished v) n e s t go h k = cc
run_shut (Failed c) n e s t go h k = cc

turns_ends : (r : Turned) (n : ℕ) (e : End) (s : System) (go : System → ℕ) → EndsBy r n e → turns_on r s go ≡ 1
turns_ends (Next s') n e s go h = absurd h
turns_ends Waiting n e s go h = absurd h
turns_ends Resting n e s go h = absurd h
turns_ends (Finished v) n e s go h = refl
turns_ends (Failed c) n e s go h = refl

-- a longer run goes on where a shorter one stopped
run_on_front :
    (p : Program) (r : Turned) (n : ℕ) (xs : List Turn) (i d : ℕ) (s t : System) →
    ((u : System) → run p (take i xs) u ≡ Open t → run p (take (i + d) xs) u ≡ run p (take d (drop i xs)) t) →
    run_on r n s (λ x. run p (take i xs) x) ≡ Open t → run_on r n s (λ x. run p (take (i + d) xs) x) ≡ run p (take d (drop i xs)) t
run_on_front p (Next s') n xs i d s t go h = go s' h
run_on_front p Waiting n xs i d s t go h = go s h
run_on_front p Resting n xs i d s t go h = go s h
run_on_front p (Finished v) n xs i d s t go h = absurd cc
run_on_front p (Failed c) n xs i d s t go h = absurd cc

zero_more : (p : Program) (xs : List Turn) (d : ℕ) (s t : System) → Open s ≡ Open t → run p (take (0 + d) xs) s ≡ run p (take d xs) t
zero_more p xs d s t h =
    let e : s ≡ t = cc in
    let z : 0 + d ≡ d = omega arith in
    ap (λ n. run p (take n xs) s) z ∙ ap (λ x. run p (take d xs) x) e

suc_more : (p : Program) (x : Turn) (xs : List Turn) (i d : ℕ) (s : System) → run p (take (suc i + d) (x ∷ xs)) s ≡ run_on (turn p x.thread x.pick s) x.thread s (λ u. run p (take (i + d) xs) u)
suc_more p x xs i d s = let e : suc i + d ≡ suc (i + d) = omega arith in ap (λ n. run p (take n (x ∷ xs)) s) e

run_front :
    (p : Program) (xs : List Turn) (i d : ℕ) (s t : System) → i ≤ length xs → run p (take i xs) s ≡ Open t → run p (take (i + d) xs) s ≡ run p (take d (drop i xs)) t
run_front p xs zero d s t l h = zero_more p xs d s t h
run_front p [] (suc i) d s t l h = absurd (omega arith)
run_front p (x ∷ xs) (suc i) d s t l h =
    suc_more p x xs i d s ∙ run_on_front p (turn p x.thread x.pick s) x.thread xs i d s t (λ u k. run_front p xs i d u t (omega arith) k) h

-- what the machine's step says of the turn
of_answer : (r : Turned) (n : ℕ) (a : Stepped) (w w' : Machine) → (a, w') ≡ answered r n w → end_by a ≡ None →
    LeadsTo r w.system w'.system × ((w'.program ≡ w.program) × ((w'.finish ≡ w.finish) × (w'.steps ≤ w.steps + 1)))
of_answer (Next s) n a w w' h e =
    let k : w' ≡ moves_to w s = ap (λ x. x.1) h in
    (ap (λ x. x.system) k, (ap (λ x. x.program) k, (ap (λ x. x.finish) k, subst (λ x. x.steps ≤ w.steps + 1) (sym k) (omega arith))))
of_answer Waiting n a w w' h e =
    let k : w' ≡ w = ap (λ x. x.1) h in
    (ap (λ x. x.system) k, (ap (λ x. x.program) k, (ap (λ x. x.finish) k, subst (λ x. x.steps ≤ w.steps + 1) (sym k) (omega arith))))
of_answer Resting n a w w' h e =
    let k : w' ≡ w = ap (λ x. x.1) h in
    (ap (λ x. x.system) k, (ap (λ x. x.program) k, (ap (λ x. x.finish) k, subst (λ x. x.steps ≤ w.steps + 1) (sym k) (omega arith))))
of_answer (Finished v) n a w w' h e = let k : a ≡ stepped.Finished v = ap (λ x. x.0) h in let l : Some (finish.Main v) ≡ None = sym (ap end_by k) ∙ e in absurd cc
of_answer (Failed c) n a w w' h e = let k : a ≡ stepped.Stuck n c = ap (λ x. x.0) h in let l : Some (finish.Stuck n c) ≡ None = sym (ap end_by k) ∙ e in absurd cc

of_end : (r : Turned) (n : ℕ) (a : Stepped) (w w' : Machine) (f : End) → (a, w') ≡ answered r n w → end_by a ≡ Some f → EndsBy r n f
of_end (Next s) n a w w' f h e = let k : a ≡ stepped.Moved = ap (λ x. x.0) h in let l : None ≡ Some f = sym (ap end_by k) ∙ e in absurd cc
of_end Waiting n a w w' f h e = let k : a ≡ stepped.Blocked = ap (λ x. x.0) h in let l : None ≡ Some f = sym (ap end_by k) ∙ e in absurd cc
of_end Resting n a w w' f h e = let k : a ≡ stepped.Idle = ap (λ x. x.0) h in let l : None ≡ Some f = sym (ap end_by k) ∙ e in absurd cc
of_end (Finished v) n a w w' f h e = let k : a ≡ stepped.Finished v = ap (λ x. x.0) h in let l : Some (finish.Main v) ≡ Some f = sym (ap end_by k) ∙ e in cc
of_end (Failed c) n a w w' f h e = let k : a ≡ stepped.Stuck n c = ap (λ x. x.0) h in let l : Some (finish.Stuck n c) ≡ Some f = sym (ap end_by k) ∙ e in cc

-- the answer of a machine that goes on
open_turned : (p : Program) (w w' : Machine) (a : Stepped) (n : ℕ) (pick : Bool) → w.program ≡ p → w.finish ≡ finish.Open → (a, w') ≡ turned w n pick →
    (a, w') ≡ answered (turn p n pick w.system) n w
open_turned p w w' a n pick e f h = h ∙ ap (λ x. turned_at x w n pick) f ∙ ap (λ q. answered (turn q n pick w.system) n w) e

take_more : (p : Program) (xs : List Turn) (i : ℕ) (x : Turn) (s t : System) → i < length xs → x ≡ get_or xs i x → run p (take i xs) s ≡ Open t →
    run p (take (i + 1) xs) s ≡ run_on (turn p x.thread x.pick t) x.thread t (λ u. Open u)
take_more p xs i x s t l e h =
    run_front p xs i 1 s t (omega arith) h ∙ ap (λ ys. run p (take 1 ys) t) (drop_at xs i x l e)

-- one turn more
pub along_more :
    (p : Program) (xs : List Turn) (i : ℕ) (w w' : Machine) (x : Turn) (a : Stepped) → i < length xs → x ≡ get_or xs i x →
    (a, w') ≡ turned w x.thread x.pick → end_by a ≡ None → Along p xs i w → Along p xs (i + 1) w'
along_more p xs i w w' x a l e h none g =
    let k = of_answer (turn p x.thread x.pick w.system) x.thread a w w' (open_turned p w w' a x.thread x.pick g.program g.finish h) none in
    let steps = k.1.1.1 in
    let before = g.steps in
    record {
      program = k.1.0 ∙ g.program;
      finish = k.1.1.0 ∙ g.finish;
      steps = omega arith;
      ends = g.ends ∙ ap (λ ys. run p ys w.system) (drop_at xs i x l e)
          ∙ run_leads (turn p x.thread x.pick w.system) x.thread w.system w'.system (λ u. run p (drop (i + 1) xs) u) k.0;
      counts =
          let c : turns p (drop i xs) w.system ≡ suc (turns p (drop (i + 1) xs) w'.system) =
          ap (λ ys. turns p ys w.system) (drop_at xs i x l e) ∙ turns_leads (turn p x.thread x.pick w.system) w.system w'.system (λ u. turns p (drop (i + 1) xs) u) k.0 in
          let d = g.counts in
          omega arith;
      front = take_more p xs i x (first_system p) w.system l e g.front ∙ run_leads (turn p x.thread x.pick w.system) x.thread w.system w'.system (λ u. Open u) k.0;
    }

pub along_first : (p : Program) (xs : List Turn) (w : Machine) → w ≡ started p → Along p xs 0 w
along_first p xs w e = subst (λ x. Along p xs 0 x) (sym e) (record {
  program = refl;
  finish = refl;
  steps = omega arith;
  ends = refl;
  counts = omega arith;
  front = refl;
})

-- the states so far and the next one
up_to_more : (p : Program) (xs : List Turn) (i : ℕ) (w : Machine) → w.program ≡ p → run p (take i xs) (first_system p) ≡ Open w.system →
    ((j : ℕ) (s : System) → j < i → run p (take j xs) (first_system p) ≡ Open s → Races p.globals s → ⊥) →
    (Races w.program.globals w.system → ⊥) → IsRaceUpTo p xs i None
up_to_more p xs i w e f before none = λ j s l h r. by_case j s l h r (cases_lt j i)
  where
    by_case : (j : ℕ) (s : System) → j ≤ i → run p (take j xs) (first_system p) ≡ Open s → Races p.globals s → (j < i) ⊎ (i ≤ j) → ⊥
    by_case j s l h r (inl lt) = before j s lt h r
    by_case j s l h r (inr ge) =
        let same : j ≡ i = omega arith in
        let o : Open s ≡ Open w.system = sym h ∙ ap (λ n. run p (take n xs) (first_system p)) same ∙ f in
        let t : s ≡ w.system = cc in
        none (subst (λ q. Races q.globals w.system) (sym e) (subst (λ x. Races p.globals x) t r))

found_up_to : (p : Program) (xs : List Turn) (i : ℕ) (w : Machine) (found : Option (ℕ × ℕ × Spot)) → w.program ≡ p → w.finish ≡ finish.Open →
    run p (take i xs) (first_system p) ≡ Open w.system →
    ((j : ℕ) (s : System) → j < i → run p (take j xs) (first_system p) ≡ Open s → Races p.globals s → ⊥) → FoundRace w found → IsRaceUpTo p xs i (raced_after i found)
found_up_to p xs i w None e o f before h = up_to_more p xs i w e f before (λ r. h (o, r))
found_up_to p xs i w (Some (n, k, spot)) e o f before h =
    ((λ j s l m run_is r. before j s l run_is r), omega arith, (w.system, f, subst (λ q. LeastRace q.globals w.system n k spot.block spot.offset) e h.1))

pub race_first :
    (p : Program) (xs : List Turn) (w : Machine) (now : Option (ℕ × ℕ × ℕ × Spot)) → Along p xs 0 w → IsRaceNow w 0 now → IsRaceUpTo p xs 0 now
race_first p xs w now g e = subst (λ r. IsRaceUpTo p xs 0 r) (sym e.2) (found_up_to p xs 0 w e.0 g.program g.finish g.front (λ j s l h r. omega arith) e.1)

-- there are blocks for the globals
pub blocks_first : (p : Program) (w : Machine) → w ≡ started p → length w.system.memory ≡ length p.globals
blocks_first p w e = ap (λ x. length x.system.memory) e ∙ length-map p.globals (global_block p.globals)

-- an index that stays shows that no race came
pub still_by :
    (p : Program) (w w' : Machine) (o : Option Watch) → w.program ≡ p → w'.program ≡ p → IfSome o (IsStill w w') → is_some o ≡ true → (Races p.globals w.system → ⊥) →
    Races p.globals w'.system → ⊥
still_by p w w' None e f h k none r = false≢true k
still_by p w w' (Some v) e f h k none r =
    h.calm (λ q. none (subst (λ y. Races y.globals w.system) e q)) (subst (λ y. Races y.globals w'.system) (sym f) r)

pub watches_by : (w w' : Machine) (o : Option Watch) → IfSome o (IsStill w w') → IfSome o (Watches w'.program.globals w'.system)
watches_by w w' None h = tt
watches_by w w' (Some v) h = h.watches

pub race_more :
    (p : Program) (xs : List Turn) (i : ℕ) (w w' : Machine) (watched : Bool) (race now : Option (ℕ × ℕ × ℕ × Spot)) → Along p xs i w → Along p xs (i + 1) w' →
    (watched ≡ true → (Races p.globals w.system → ⊥) → Races p.globals w'.system → ⊥) → IsRaceUpTo p xs i race → IsNextRace w' watched (i + 1) race now → IsRaceUpTo p xs (i + 1) now
race_more p xs i w w' watched None now before g still r (inl e) =
    let quiet : Races p.globals w.system → ⊥ = r i w.system (omega arith) before.front in
    subst (λ y. IsRaceUpTo p xs (i + 1) y) (sym e.1)
    (up_to_more p xs (i + 1) w' g.program g.front (λ j s l k q. r j s (omega arith) k q) (λ q. still e.0 quiet (subst (λ y. Races y.globals w'.system) g.program q)))
race_more p xs i w w' watched None now before g still r (inr e) =
    subst (λ y. IsRaceUpTo p xs (i + 1) y) (sym e.2) (found_up_to p xs (i + 1) w' e.0 g.program g.finish g.front (λ j s l k q. r j s (omega arith) k q) e.1)
race_more p xs i w w' watched (Some (j, n, k, spot)) now before g still r e =
    let l = r.1 in subst (λ y. IsRaceUpTo p xs (i + 1) y) (sym e) (r.0, omega arith, r.2)

drop-end : (xs : List Turn) (i : ℕ) → length xs ≤ i → drop i xs ≡ []
drop-end [] zero l = refl
drop-end [] (suc i) l = refl
drop-end (x ∷ xs) zero l = absurd (omega arith)
drop-end (x ∷ xs) (suc i) l = drop-end xs i (omega arith)

race_at_end : (p : Program) (xs : List Turn) (i : ℕ) (race : Option (ℕ × ℕ × ℕ × Spot)) → i ≡ length xs → IsRaceUpTo p xs i race → FirstRace p xs race
race_at_end p xs i None l h = λ j s m k e r. h j s (omega arith) e r
race_at_end p xs i (Some (j, n, k, spot)) l h = let m = h.1 in (h.0, omega arith, h.2)

-- the schedule is at its end
pub runs_open :
    (p : Program) (xs : List Turn) (i turns : ℕ) (w : Machine) (race : Option (ℕ × ℕ × ℕ × Spot)) → i ≡ length xs → turns ≡ i → Along p xs i w → IsRaceUpTo p xs i race →
    RunsTo p xs (record { turns = turns; end = finish.Open; race = race })
runs_open p xs i count w race l t g h =
    let d : drop i xs ≡ [] = drop-end xs i (omega arith) in
    record {
      turns_are = t ∙ sym (g.counts ∙ ap (λ ys. i + turns p ys w.system) d ∙ (omega arith));
      end_is = sym (ap end_of (g.ends ∙ ap (λ ys. run p ys w.system) d));
      race_is = race_at_end p xs i race l h;
    }

-- no state of a run is past the turn that ended it
shut_after :
    (p : Program) (xs : List Turn) (i : ℕ) (s t : System) (x : Turn) (e : End) → i < length xs → x ≡ get_or xs i x → run p (take i xs) s ≡ Open t →
    EndsBy (turn p x.thread x.pick t) x.thread e → (j : ℕ) (u : System) → i < j → run p (take j xs) s ≡ Open u → ⊥
shut_after p xs i s t x e l at h ends j u m k =
    let d : i + suc (j - suc i) ≡ j = omega arith in
    let longer : run p (take j xs) s ≡ run_on (turn p x.thread x.pick t) x.thread t (λ v. run p (take (j - suc i) (drop (i + 1) xs)) v) =
    ap (λ n. run p (take n xs) s) (sym d) ∙ run_front p xs i (suc (j - suc i)) s t (omega arith) h
    ∙ ap (λ ys. run p (take (suc (j - suc i)) ys) t) (drop_at xs i x l at) in
    run_shut (turn p x.thread x.pick t) x.thread e t u (λ v. run p (take (j - suc i) (drop (i + 1) xs)) v) ends (sym longer ∙ k)

race_at_stop :
    (p : Program) (xs : List Turn) (i : ℕ) (race : Option (ℕ × ℕ × ℕ × Spot)) → i < length xs →
    ((j : ℕ) (u : System) → i < j → run p (take j xs) (first_system p) ≡ Open u → ⊥) → IsRaceUpTo p xs i race → FirstRace p xs race
race_at_stop p xs i None l shut h = λ j s m k e r. by_case j s e r (cases_lt i j)
  where
    by_case : (j : ℕ) (s : System) → run p (take j xs) (first_system p) ≡ Open s → Races p.globals s → (i < j) ⊎ (j ≤ i) → ⊥
    by_case j s e r (inl lt) = shut j s lt e
    by_case j s e r (inr ge) = h j s ge e r
race_at_stop p xs i (Some (j, n, k, spot)) l shut h = let m = h.1 in (h.0, omega arith, h.2)

-- a turn ended the run
pub runs_ended :
    (p : Program) (xs : List Turn) (i turns : ℕ) (w w' : Machine) (x : Turn) (a : Stepped) (e : End) (race : Option (ℕ × ℕ × ℕ × Spot)) → i < length xs → x ≡ get_or xs i x →
    (a, w') ≡ turned w x.thread x.pick → end_by a ≡ Some e → turns ≡ i + 1 → Along p xs i w → IsRaceUpTo p xs i race →
    RunsTo p xs (record { turns = turns; end = e; race = race })
runs_ended p xs i count w w' x a e race l at h by t g r =
    let ends : EndsBy (turn p x.thread x.pick w.system) x.thread e = of_end (turn p x.thread x.pick w.system) x.thread a w w' e (open_turned p w w' a x.thread x.pick g.program g.finish h) by in
    record {
      turns_are = t ∙ sym (g.counts ∙ ap (λ ys. i + turns p ys w.system) (drop_at xs i x l at)
          ∙ ap (λ n. i + n) (turns_ends (turn p x.thread x.pick w.system) x.thread e w.system (λ u. turns p (drop (i + 1) xs) u) ends));
      end_is = sym (ap end_of (g.ends ∙ ap (λ ys. run p ys w.system) (drop_at xs i x l at))
          ∙ run_ends (turn p x.thread x.pick w.system) x.thread e w.system (λ u. run p (drop (i + 1) xs) u) ends);
      race_is = race_at_stop p xs i race l (shut_after p xs i (first_system p) w.system x e l at g.front ends) r;
    }

-- the item at a place, whatever stands for none
pub item_at : (xs : List Turn) (i : ℕ) (d : Turn) → i < length xs → get_or xs i d ≡ get_or xs i (get_or xs i d)
item_at [] i d l = absurd (omega arith)
item_at (x ∷ xs) zero d l = refl
item_at (x ∷ xs) (suc i) d l = other xs i d (get_or xs i d) (omega arith)
  where
    other : (xs : List Turn) (i : ℕ) (d e : Turn) → i < length xs → get_or xs i d ≡ get_or xs i e
    other [] i d e l = absurd (omega arith)
    other (x ∷ xs) zero d e l = refl
    other (x ∷ xs) (suc i) d e l = other xs i d e (omega arith)
