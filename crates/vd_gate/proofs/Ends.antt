-- The rule holds of a new table, and what it tells of the last one.
use Rattle.std.proofs.Common.{◌≡◌, ℕ, ◌+◌, ◌<◌, ◌≤◌, Bool, true, false, List, [], ◌∷◌, length, Option, Some, refl, ap, sym, ◌∙◌, ⊎_elim, arith}
use Rattle.std.specs.Prelude.{if◌then◌else◌}
use Rattle.std.specs.List.{Contains}
use mathlib.Core.Option as core
use mathlib.Core.List.{IsPrefix}
use lib.ListN.{get_elem?}
use Rattle.atomic_table.specs.Table.{State, opening, Final, Seen}
use Rattle.vd_gate.specs.declared.story.PastTurn.{PastTurn}
use Rattle.vd_gate.specs.declared.view.View.{View}
use Rattle.vd_gate.specs.Turns.{entries_by}
use Rattle.vd_gate.specs.Views.{SeatState, new_view}
use Rattle.vd_gate.specs.Rule.{gate_state, Fits, NoTurnHeld, MeetsRule}
use Rattle.vd_gate.proofs.Lists.{place_below_length, each_after_set, same_at_place, contains_cons, contains_none}
use Rattle.vd_gate.proofs.Frames.{false_of_not_true, none_is_not_some}

module _ {E S : Type 0} (stands : ℕ → S → List (PastTurn E) → Type 0) (base : ℕ) where
  abbrev St : Type 0
  St = State (Option S) (View E)

  abbrev M : Type 0
  M = SeatState S E

  abbrev Rule : St → Type 0
  Rule = MeetsRule stands base

  pub rule_of_new_table : (state : S) → stands base state [] → Rule (opening (0 ∷ 0 ∷ 1 ∷ []) (Some state ∷ []) (new_view base 0 [] 1))
  rule_of_new_table state is = let v : View E = new_view base 0 [] 1 in record {
    history = [];
    made = 1;
    owner = λ k. k;
    holder = λ _. 0;
    words = refl;
    few = (omega arith, omega arith);
    each = each_after_set (Fits base (gate_state [] 0 1 1 (λ k. k) (λ _. 0))) (v ∷ []) 0 v
        record {
          living = λ _. (refl, refl, refl);
          seen = ([], refl);
          told = λ xs d. absurd (contains_none xs d);
          mine = λ k es d. ⊎_elim (λ (e : ◌≡◌ {A = ℕ × List E} (0, []) (k, es)). let number : 0 ≡ k = ap (λ (p : ℕ × List E). p.0) e in (omega arith, sym number, ap (λ (p : ℕ × List E). p.1) e))
              (λ (d : Contains [] (k, es)). absurd (contains_none (k, es) d)) (contains_cons (0, []) (k, es) [] d);
          ticket = λ x e. absurd (none_is_not_some x e);
          holds = λ h. absurd (let c : false ≡ true = h in cc);
          first = λ _. (refl, refl, refl);
        }
        (λ j u other e. absurd (other (let lt = place_below_length (v ∷ []) j u e in omega arith)));
    fresh = λ k le. refl;
    slots = refl;
    home = λ _. (state, refl, is);
  }

  -- what the last state tells, where one seat answers for each number and nobody has the turn
  pub last_table_tells : (id : ℕ) (v : View E) (ws : List ℕ) (xs : List (Option S)) → v.live ≡ true → v.number ≡ 0 → v.drawn ≡ false → v.holds ≡ false
      → ((n : ℕ) → n < v.made → (es : List E) × Contains v.mine (n, es)) → Final (Seen Rule id v) ws xs
      → (H : List (PastTurn E)) × (x : S) × (get_elem? xs 0 ≡ core.some (Some x)) × stands base x H × IsPrefix v.seen H
      × ((n : ℕ) (es : List E) → Contains v.mine (n, es) → entries_by n H ≡ es) × ((n : ℕ) → v.made ≤ n → entries_by n H ≡ [])
  last_table_tells id v ws xs live first drawn holds whole (s, (r, at), _, _, homes) =
      let f = r.each id v at in
      let H : List (PastTurn E) = r.history in
      let seats : ℕ = length s.views in
      let zeroth : id ≡ 0 = sym (f.living live).0 ∙ first in
      let one = f.first zeroth in
      let made : v.made ≡ r.made = one.1 in
      let count : seats + 0 ≡ r.made = ap (λ (b : Bool). seats + (if b then 1 else 0)) (sym drawn) ∙ one.2 in
      let none : NoTurnHeld s.views = (λ j u e. false_of_not_true u.holds (λ h. let g = r.each j u e in
      let own = (g.living (g.ticket (length H) (g.holds h).0).0).2 in
      let inside : j < seats = place_below_length s.views j u e in
      let list = whole j (omega arith) in
      let same : j ≡ id = sym own ∙ (f.mine j list.0 list.1).1 in
      let u_is : u ≡ v = same_at_place s.views j id u v same e at in
      let c : true ≡ false = sym h ∙ (ap (λ (z : View E). z.holds) u_is ∙ holds) in cc)) in
      let h = r.home none in (
        H,
        h.0,
        homes 0 (Some h.0) (ap (λ l. get_elem? l 0) h.1),
        h.2,
        f.seen,
        (λ n es c. (f.mine n es c).2),
        (λ n le. r.fresh n (omega arith)),
      )
