-- What carries over from one state of the table to the next: of the tickets out, of the other seats, and of the rule where one view changes.
use Rattle.std.proofs.Common.{◌≡◌, ◌≢◌, ℕ, zero, suc, ◌+◌, ◌%◌, ◌<◌, ◌≤◌, eqb, Bool, true, false, List, [], ◌∷◌, ◌++◌, length, get_or, set, Option, Some, None, refl, ap, sym, ◌∙◌, subst, arith, length-set, eq-eqb, ne_eqb}
use Rattle.std.specs.Prelude.{is_some, if◌then◌else◌}
use Rattle.std.proofs.lemmas.List.{set-get_or}
use mathlib.Core.Logic.{dite}
use mathlib.Core.Option as core
use native.Mathlib.Decide.{ℕ_discrete}
use lib.ListN.{get_elem?}
use Rattle.atomic_table.specs.Table.{State, keeps, stepped}
use Rattle.atomic_table.proofs.Lists.{set_here, set_else}
use Rattle.vd_gate.specs.declared.story.PastTurn.{PastTurn}
use Rattle.vd_gate.specs.declared.view.View.{View}
use Rattle.vd_gate.specs.Turns.{entries_by}
use Rattle.vd_gate.specs.Rule.{modulus, GateState, gate_state, Fits, ticket_count, tickets_out, NoTurnHeld, MeetsRule}
use Rattle.vd_gate.proofs.Lists.{place_below_length, each_after_set, same_at_place}

-- a test that is not true is false
pub false_of_not_true : (b : Bool) → (b ≡ true → ⊥) → b ≡ false
false_of_not_true true f = absurd (f refl)
false_of_not_true false f = refl

-- a map that is changed at one number
abbrev pub with_one : ℕ → ℕ → (ℕ → ℕ) → ℕ → ℕ
with_one x to f y = if eqb y x then to else f y

pub with_one-same : (x to : ℕ) (f : ℕ → ℕ) (y : ℕ) → y ≡ x → with_one x to f y ≡ to
with_one-same x to f y e = ap (λ b. if b then to else f y) (eq-eqb y x e)

pub with_one-other : (x to : ℕ) (f : ℕ → ℕ) (y : ℕ) → y ≢ x → with_one x to f y ≡ f y
with_one-other x to f y ne = ap (λ b. if b then to else f y) (ne_eqb y x ne)

-- having no ticket is not having one
pub none_is_not_some : (x : ℕ) → ◌≡◌ {A = Option ℕ} None (Some x) → ⊥
none_is_not_some x e = cc

module _ {E : Type 0} where
  pub tickets_out-set : (l : List (View E)) (id : ℕ) (v w : View E) → get_elem? l id ≡ core.some v → tickets_out (set l id w) + ticket_count v ≡ tickets_out l + ticket_count w
  tickets_out-set [] id v w e = absurd (core.some-ne-none v (sym e))
  tickets_out-set (u ∷ us) zero v w e = let same : ticket_count u ≡ ticket_count v = ap ticket_count (core.some-injective u v e) in omega arith
  tickets_out-set (u ∷ us) (suc id) v w e = let r = tickets_out-set us id v w e in omega arith

  pub tickets_out-push : (l : List (View E)) (v : View E) → tickets_out (l ++ v ∷ []) ≡ tickets_out l + ticket_count v
  tickets_out-push [] v = omega arith
  tickets_out-push (u ∷ us) v = let r = tickets_out-push us v in omega arith

  -- at most one ticket for each view
  ticket_count_small : (v : View E) (o : Option ℕ) → v.ticket ≡ o → ticket_count v ≤ 1
  ticket_count_small v (Some x) e = rw e (omega arith)
  ticket_count_small v None e = rw e (omega arith)

  pub tickets_out_small : (l : List (View E)) → tickets_out l ≤ length l
  tickets_out_small [] = omega arith
  tickets_out_small (u ∷ us) = let r = tickets_out_small us in let s = ticket_count_small u u.ticket refl in omega arith

  -- where one view changes and keeps whether it has the turn
  pub no_turn_held_before : (views : List (View E)) (id : ℕ) (v w : View E) → get_elem? views id ≡ core.some v → w.holds ≡ v.holds → NoTurnHeld (set views id w) → NoTurnHeld views
  no_turn_held_before views id v w at same none j u e = dite (ℕ_discrete j id)
      (λ is. let here : u ≡ v = same_at_place views j id u v is e at in ap (λ (z : View E). z.holds) here ∙ (sym same ∙ none id w (set_here views id w (place_below_length views id v at))))
      (λ other. none j u (set_else views id j w other ∙ e))

  ticket_count-same : (v w : View E) → w.ticket ≡ v.ticket → ticket_count w ≡ ticket_count v
  ticket_count-same v w e = ap (λ (o : Option ℕ). if is_some o then 1 else 0) e

  pub tickets_out-same : (views : List (View E)) (id : ℕ) (v w : View E) → get_elem? views id ≡ core.some v → w.ticket ≡ v.ticket → tickets_out (set views id w) ≡ tickets_out views
  tickets_out-same views id v w at e = let a = tickets_out-set views id v w at in let b = ticket_count-same v w e in omega arith

module _ {E : Type 0} {base : ℕ} where
  -- what another seat knows stays so where the history stays and tickets are drawn
  pub fits_others : (H : List (PastTurn E)) (a b seats made made' : ℕ) (owner holder holder' : ℕ → ℕ) (j : ℕ) (u : View E) → a ≤ b → ((x : ℕ) → x < length H + a → holder' x ≡ holder x) → (j ≡ 0 → made ≡ made')
      → Fits base (gate_state H a seats made owner holder) j u → Fits base (gate_state H b seats made' owner holder') j u
  fits_others H a b seats made made' owner holder holder' j u more same kept f = record {
    living = f.living;
    seen = f.seen;
    told = f.told;
    mine = f.mine;
    ticket = λ x e. let t = f.ticket x e in let below = t.2 in (t.0, t.1, omega arith, same x below ∙ t.3);
    holds = f.holds;
    first = λ z. let t = f.first z in (t.0, t.1 ∙ kept z, t.2 ∙ kept z);
  }

-- a table of the gate
abbrev TableState : Type 0 → Type 0 → Type 0
TableState S E = State (Option S) (View E)

module _ {E S : Type 0} {stands : ℕ → S → List (PastTurn E) → Type 0} {base : ℕ} where
  -- what the rule says that all views are about
  abbrev pub state_of : (s : TableState S E) → MeetsRule stands base s → GateState E
  state_of s r = gate_state r.history (tickets_out s.views) (length s.views) r.made r.owner r.holder

  -- a step that sets one view: what the new words, slot and view owe, and the views of the others
  pub rule_after_step : (s : TableState S E) (r : MeetsRule stands base s) (id : ℕ) (w : View E) (H : List (PastTurn E)) (m made : ℕ) (holder : ℕ → ℕ) (ws : List ℕ) (hs : List (core.Option (Option S)))
      → tickets_out (set s.views id w) ≡ m → made ≤ 64 → length s.views ≤ made → ws ≡ (length H + m) % modulus ∷ length H % modulus ∷ made ∷ []
      → Fits base (gate_state H m (length s.views) made r.owner holder) id w
      → ((j : ℕ) (u : View E) → j ≢ id → get_elem? s.views j ≡ core.some u → Fits base (gate_state H m (length s.views) made r.owner holder) j u)
      → ((n : ℕ) → length s.views ≤ n → entries_by n H ≡ []) → length hs ≡ 1
      → (NoTurnHeld (set s.views id w) → (x : S) × (hs ≡ core.some (Some x) ∷ []) × stands base x H)
      → MeetsRule stands base record { words = ws; homes = hs; views = set s.views id w }
  rule_after_step s r id w H m made holder ws hs count few more words mine others fresh slots home =
      let size : length (set s.views id w) ≡ length s.views = length-set s.views id w in record {
        history = H;
        made = made;
        owner = r.owner;
        holder = holder;
        words = words ∙ ap (λ (z : ℕ). (length H + z) % modulus ∷ length H % modulus ∷ made ∷ []) (sym count);
        few = (few, omega arith);
        each = subst (λ (p : ℕ × ℕ). (j : ℕ) (u : View E) → get_elem? (set s.views id w) j ≡ core.some u → Fits base (gate_state H p.0 p.1 made r.owner holder) j u) (λ i. (sym count i, sym size i))
            (each_after_set (Fits base (gate_state H m (length s.views) made r.owner holder)) s.views id w mine others);
        fresh = λ n le. fresh n (omega arith);
        slots = slots;
        home = home;
      }

  -- a step that changes one view alone, which keeps its ticket and whether it has the turn
  rule_after_view_change : (s : TableState S E) (r : MeetsRule stands base s) (id : ℕ) (v w : View E) → get_elem? s.views id ≡ core.some v → w.ticket ≡ v.ticket → w.holds ≡ v.holds → Fits base (state_of s r) id w
      → MeetsRule stands base record { words = s.words; homes = s.homes; views = set s.views id w }
  rule_after_view_change s r id v w at tickets holding fits =
      rule_after_step s r id w r.history (tickets_out s.views) r.made r.holder s.words s.homes (tickets_out-same s.views id v w at tickets) r.few.0 r.few.1 r.words fits (λ j u _ e. r.each j u e) r.fresh r.slots
      (λ none. r.home (no_turn_held_before s.views id v w at holding none))

  -- a step that leaves the word as it was
  pub rule_after_load : (s : TableState S E) (r : MeetsRule stands base s) (i id : ℕ) (cs : List (ℕ × Option S)) (v w : View E) → get_elem? s.views id ≡ core.some v → w.ticket ≡ v.ticket → w.holds ≡ v.holds → Fits base (state_of s r) id w
      → MeetsRule stands base (stepped s i (get_or s.words i 0) id cs w keeps)
  rule_after_load s r i id cs v w at tickets holding fits =
      subst (λ (ws : List ℕ). MeetsRule stands base record { words = ws; homes = s.homes; views = set s.views id w }) (sym (set-get_or s.words i 0)) (rule_after_view_change s r id v w at tickets holding fits)
