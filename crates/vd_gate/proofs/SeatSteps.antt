-- The steps that number, split and join the seats keep the rule.
use Rattle.std.proofs.Common.{◌≡◌, ◌≢◌, ℕ, ◌+◌, ◌-◌, ◌%◌, ◌<◌, eqb, ◌⊎◌, Bool, true, false, List, [], ◌∷◌, ◌++◌, length, get_or, set, Option, None, refl, ap, sym, ◌∙◌, subst, ⊎_elim, arith, le_refl, length-append, length-set, eq-eqb, ne_eqb}
use Rattle.std.specs.Prelude.{if◌then◌else◌}
use Rattle.std.specs.List.{Contains}
use Rattle.std.proofs.lemmas.List.Elements.{Contains-append_cases}
use mathlib.Core.Option as core
use mathlib.Core.List.{IsPrefix}
use lib.ListN.{get_elem?}
use prog.Atomic.{either}
use Rattle.atomic_table.specs.Table.{State, step, keeps, stepped, Allows, Splits, Joins}
use Rattle.atomic_table.proofs.Lists.{set_else, at_longer}
use Rattle.vd_gate.specs.declared.story.PastTurn.{PastTurn}
use Rattle.vd_gate.specs.declared.view.View.{View}
use Rattle.vd_gate.specs.Views.{SeatState, with_number_drawn, with_number_given, split_view, joined_view, spent_view, without_told}
use Rattle.vd_gate.specs.Rule.{modulus, GateState, gate_state, Fits, tickets_out, MeetsRule}
use Rattle.vd_gate.specs.Steps.{DrawsNumber, LearnsOfJoin}
use Rattle.vd_gate.proofs.Lists.{prefix_shorter, at_pushed, place_below_length, each_after_set, contains_cons, contains_none}
use Rattle.vd_gate.proofs.Frames.{none_is_not_some, with_one, with_one-same, with_one-other, no_turn_held_before, tickets_out-same, tickets_out-push, state_of, fits_others, rule_after_step, rule_after_load}

module _ {E S : Type 0} (stands : ℕ → S → List (PastTurn E) → Type 0) (base : ℕ) where
  abbrev St : Type 0
  St = State (Option S) (View E)

  abbrev M : Type 0
  M = SeatState S E

  abbrev Rule : St → Type 0
  Rule = MeetsRule stands base

  pub draw_number_allowed : (slots id old new : ℕ) (me : M) → me.0.number ≡ 0 → me.0.live ≡ true → me.0.drawn ≡ false → me.0.made ≡ old → old < 64 → new ≡ old + 1
      → Allows Rule slots id me 2 (λ n. either (eqb n old) new n) (DrawsNumber (step slots 2 old new core.none) me)
  draw_number_allowed slots id old new me first live drawn made below up s r _ at _ =
      let v : View E = me.0 in
      let f = r.each id v at in
      let zeroth : id ≡ 0 = sym (f.living live).0 ∙ first in
      let one = f.first zeroth in
      let count : length s.views + 0 ≡ r.made = ap (λ (b : Bool). length s.views + (if b then 1 else 0)) (sym drawn) ∙ one.2 in
      let found : get_or s.words 2 0 ≡ old = ap (λ (l : List ℕ). get_or l 2 0) r.words ∙ (sym one.1 ∙ made) in
      let was : r.made ≡ old = sym one.1 ∙ made in
      let w : View E = with_number_drawn v in (
        w,
        keeps,
        tt,
        subst (λ b. Rule (stepped s 2 (either b new (get_or s.words 2 0)) id me.1 w keeps)) (sym (eq-eqb (get_or s.words 2 0) old found))
            (rule_after_step s r id w r.history (tickets_out s.views) new r.holder (set s.words 2 new) s.homes (tickets_out-same s.views id v w at refl) (omega arith) (omega arith)
            (ap (λ (l : List ℕ). set l 2 new) r.words)
            record {
              living = f.living;
              seen = f.seen;
              told = f.told;
              mine = f.mine;
              ticket = f.ticket;
              holds = f.holds;
              first = λ z. (live, (let e : v.made + 1 ≡ new = omega arith in e), (let e : length s.views + 1 ≡ new = omega arith in e));
            }
            (λ j u other e. fits_others r.history (tickets_out s.views) (tickets_out s.views) (length s.views) r.made new r.owner r.holder r.holder j u (le_refl (tickets_out s.views)) (λ x _. refl) (λ z. absurd (other (z ∙ sym zeroth))) (r.each j u e))
            r.fresh r.slots (λ none. r.home (no_turn_held_before s.views id v w at refl none))),
        (refl, refl),
      )

  pub learn_allowed : (slots id : ℕ) (me : M) → Allows Rule slots id me 0 (λ n. n) (LearnsOfJoin (step slots 0 0 0 core.none) me)
  learn_allowed slots id me s r _ at _ = let v : View E = me.0 in let f = r.each id v at in let w : View E = without_told v in (
    w,
    keeps,
    tt,
    rule_after_load s r 0 id me.1 v w at refl refl
        record { living = f.living; seen = f.seen; told = λ xs c. absurd (contains_none xs c); mine = f.mine; ticket = f.ticket; holds = f.holds; first = f.first },
    (refl, refl, (λ xs c le. prefix_shorter xs v.seen r.history (f.told xs c) f.seen le), (λ n es fs c d. sym (f.mine n es c).2 ∙ (f.mine n fs d).2)),
  )

  -- what a seat knows stays so where one seat more comes, with its number
  fits_after_split : (H : List (PastTurn E)) (a seats made : ℕ) (owner holder : ℕ → ℕ) (j : ℕ) (x : View E) (b : Bool) → j < seats → (j ≡ 0 → (x.live ≡ true) × (x.made ≡ made) × ((seats + 1) + (if b then 1 else 0) ≡ made))
      → Fits base (gate_state H a seats made owner holder) j x → Fits base (gate_state H a (seats + 1) made (with_one seats seats owner) holder) j (record x { drawn = b })
  fits_after_split H a seats made owner holder j x b lt one g = record {
    living = λ l. let o = g.living l in (o.0, o.1, with_one-other seats seats owner j (λ is. omega arith) ∙ o.2);
    seen = g.seen;
    told = g.told;
    mine = λ k es d. let o = g.mine k es d in let below = o.0 in (omega arith, with_one-other seats seats owner k (λ is. omega arith) ∙ o.1, o.2);
    ticket = g.ticket;
    holds = g.holds;
    first = one;
  }

  -- a seat for the number that was drawn
  pub split_allowed : (id : ℕ) (v : View E) → v.number ≡ 0 → v.live ≡ true → v.drawn ≡ true → Splits Rule id v (with_number_given v) (split_view v)
  split_allowed id v first live drawn s r at =
      let f = r.each id v at in
      let H : List (PastTurn E) = r.history in
      let a : ℕ = tickets_out s.views in
      let seats : ℕ = length s.views in
      let inside : id < seats = place_below_length s.views id v at in
      let zeroth : id ≡ 0 = sym (f.living live).0 ∙ first in
      let one = f.first zeroth in
      let count : seats + 1 ≡ r.made = ap (λ (b : Bool). seats + (if b then 1 else 0)) (sym drawn) ∙ one.2 in
      let w : View E = with_number_given v in
      let u : View E = split_view v in
      let vs : List (View E) = set s.views id w in
      let size : length vs ≡ seats = length-set s.views id w in
      let longer : length (vs ++ u ∷ []) ≡ seats + 1 = length-append vs (u ∷ []) ∙ ap (λ (z : ℕ). z + 1) size in
      let tickets : tickets_out (vs ++ u ∷ []) ≡ a = (let p = tickets_out-push vs u in let q = tickets_out-same s.views id v w at refl in omega arith) in
      let owner : ℕ → ℕ = with_one seats seats r.owner in
      let c : GateState E = gate_state H a (seats + 1) r.made owner r.holder in
      let here : v.made - 1 ≡ seats = (let e : v.made ≡ r.made = one.1 in omega arith) in
      let left : Fits base c id w = fits_after_split H a seats r.made r.owner r.holder id v false inside (λ _. (live, one.1, (let e : (seats + 1) + 0 ≡ r.made = omega arith in e))) f in
      let right : Fits base c seats u = record {
        living = λ _. (here, (f.living live).1, with_one-same seats seats r.owner seats refl);
        seen = f.seen;
        told = λ xs d. absurd (contains_none xs d);
        mine = λ k es d. ⊎_elim
            (λ (e : ◌≡◌ {A = ℕ × List E} (v.made - 1, []) (k, es)). let number : k ≡ seats = sym (ap (λ (p : ℕ × List E). p.0) e) ∙ here in let entries : [] ≡ es = ap (λ (p : ℕ × List E). p.1) e in
            (omega arith, with_one-same seats seats r.owner k number, r.fresh k (omega arith) ∙ entries))
            (λ (d : Contains [] (k, es)). absurd (contains_none (k, es) d)) (contains_cons (v.made - 1, []) (k, es) [] d);
        ticket = λ x e. absurd (none_is_not_some x e);
        holds = λ h. absurd (let c : false ≡ true = h in cc);
        first = λ z. absurd (omega arith);
      } in
      let all : (j : ℕ) (x : View E) → get_elem? (vs ++ u ∷ []) j ≡ core.some x → Fits base c j x = (λ j x e. ⊎_elim
      (each_after_set (Fits base c) s.views id w left (λ i y other at'. fits_after_split H a seats r.made r.owner r.holder i y y.drawn (place_below_length s.views i y at') (λ z. absurd (other (z ∙ sym zeroth))) (r.each i y at')) j x)
      (λ (t : (j ≡ length vs) × (u ≡ x)). subst (λ (p : ℕ × View E). Fits base c p.0 p.1) (λ i. (sym (t.0 ∙ size) i, t.1 i)) right) (at_pushed vs u x j e)) in record {
        history = H;
        made = r.made;
        owner = owner;
        holder = r.holder;
        words = r.words ∙ ap (λ (z : ℕ). (length H + z) % modulus ∷ length H % modulus ∷ r.made ∷ []) (sym tickets);
        few = (r.few.0, omega arith);
        each = subst (λ (p : ℕ × ℕ). (j : ℕ) (x : View E) → get_elem? (vs ++ u ∷ []) j ≡ core.some x → Fits base (gate_state H p.0 p.1 r.made owner r.holder) j x) (λ i. (sym tickets i, sym longer i)) all;
        fresh = λ k le. r.fresh k (omega arith);
        slots = r.slots;
        home = λ none. r.home (no_turn_held_before s.views id v w at refl (λ j x e. none j x (at_longer vs (u ∷ []) j x e)));
      }

  -- the seat id takes in what the seat other knows
  pub join_allowed : (id other : ℕ) (v w : View E) → v.ticket ≡ None → v.holds ≡ false → w.ticket ≡ None → w.holds ≡ false → w.live ≡ true → v.live ≡ true → (w.number ≢ 0) ⊎ (v.number ≡ 0) → Joins Rule id v other w (joined_view v w) spent_view
  join_allowed id other v w no_ticket no_turn no_ticket_there no_turn_there live live_here later s r at apart there =
      let f = r.each id v at in
      let both : View E = joined_view v w in
      let vs : List (View E) = set s.views id both in
      let there' : get_elem? s.views other ≡ core.some w = sym (set_else s.views id other both apart) ∙ there in
      let g = r.each other w there' in
      let H : List (PastTurn E) = r.history in
      let a : ℕ = tickets_out s.views in
      let seats : ℕ = length s.views in
      let late : other ≢ 0 = (λ z. ⊎_elim (λ (n : w.number ≢ 0). n ((g.living live).0 ∙ z)) (λ (n : v.number ≡ 0). apart (z ∙ (sym n ∙ (f.living live_here).0))) later) in
      let owner : ℕ → ℕ = λ k. if eqb (r.owner k) other then id else r.owner k in
      let owner-same : (k : ℕ) → r.owner k ≡ other → owner k ≡ id = (λ k e. ap (λ b. if b then id else r.owner k) (eq-eqb (r.owner k) other e)) in
      let owner-other : (k j : ℕ) → r.owner k ≡ j → j ≢ other → owner k ≡ j = (λ k j e ne. ap (λ b. if b then id else r.owner k) (ne_eqb (r.owner k) other (λ is. ne (sym e ∙ is))) ∙ e) in
      let apart' : id ≢ other = (λ is. apart (sym is)) in
      let c : GateState E = gate_state H a seats r.made owner r.holder in
      let longest : (b : Bool) → IsPrefix (if b then w.seen else v.seen) H = (λ b. elim b as (λ z. IsPrefix (if z then w.seen else v.seen) H) [ true ↦ g.seen | false ↦ f.seen ]) in
      let kept : Fits base c id both = record {
        living = λ l. let o = f.living l in (o.0, o.1, owner-other id id o.2 apart');
        seen = longest _;
        told = λ xs d. ⊎_elim (λ (e : v.seen ≡ xs). subst (λ l. IsPrefix l H) e f.seen)
            (λ (d : Contains (w.seen ∷ []) xs). ⊎_elim (λ (e : w.seen ≡ xs). subst (λ l. IsPrefix l H) e g.seen) (λ (d : Contains [] xs). absurd (contains_none xs d)) (contains_cons w.seen xs [] d))
            (contains_cons v.seen xs (w.seen ∷ []) d);
        mine = λ k es d. ⊎_elim (λ (d : Contains v.mine (k, es)). let o = f.mine k es d in (o.0, owner-other k id o.1 apart', o.2))
            (λ (d : Contains w.mine (k, es)). let o = g.mine k es d in (o.0, owner-same k o.1, o.2)) (Contains-append_cases v.mine w.mine (k, es) d);
        ticket = f.ticket;
        holds = λ h. absurd (let c : true ≡ false = sym h ∙ no_turn in cc);
        first = f.first;
      } in
      let gone : Fits base c other spent_view = record {
        living = λ l. absurd (let c : false ≡ true = l in cc);
        seen = (H, refl);
        told = λ xs d. absurd (contains_none xs d);
        mine = λ k es d. absurd (contains_none (k, es) d);
        ticket = λ x e. absurd (none_is_not_some x e);
        holds = λ h. absurd (let c : false ≡ true = h in cc);
        first = λ z. absurd (late z);
      } in
      let rest : (j : ℕ) (x : View E) → j ≢ other → Fits base (state_of s r) j x → Fits base c j x = (λ j x ne h. record {
        living = λ l. let o = h.living l in (o.0, o.1, owner-other j j o.2 ne);
        seen = h.seen;
        told = h.told;
        mine = λ k es d. let o = h.mine k es d in (o.0, owner-other k j o.1 ne, o.2);
        ticket = h.ticket;
        holds = h.holds;
        first = h.first;
      }) in
      let us : List (View E) = set vs other spent_view in
      let size : length us ≡ seats = length-set vs other spent_view ∙ length-set s.views id both in
      let tickets : tickets_out us ≡ a = tickets_out-same vs other w spent_view there (sym no_ticket_there) ∙ tickets_out-same s.views id v both at refl in
      let all : (j : ℕ) (x : View E) → get_elem? us j ≡ core.some x → Fits base c j x =
      each_after_set (Fits base c) vs other spent_view gone
      (λ j x ne e. each_after_set (λ i y. i ≢ other → Fits base c i y) s.views id both (λ _. kept) (λ i y _ at' ne'. rest i y ne' (r.each i y at')) j x e ne) in record {
        history = H;
        made = r.made;
        owner = owner;
        holder = r.holder;
        words = r.words ∙ ap (λ (z : ℕ). (length H + z) % modulus ∷ length H % modulus ∷ r.made ∷ []) (sym tickets);
        few = (r.few.0, omega (arith, r.few.1));
        each = subst (λ (p : ℕ × ℕ). (j : ℕ) (x : View E) → get_elem? us j ≡ core.some x → Fits base (gate_state H p.0 p.1 r.made owner r.holder) j x) (λ i. (sym tickets i, sym size i)) all;
        fresh = λ k le. r.fresh k (omega arith);
        slots = r.slots;
        home = λ none. r.home (no_turn_held_before s.views id v both at refl (no_turn_held_before vs other w spent_view there (sym no_turn_there) none));
      }
