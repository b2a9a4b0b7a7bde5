-- How all passes become one, and what the last state tells then.
use Rattle.std.proofs.Common.{◌≡◌, ℕ, ◌<◌, ◌≤◌, ◌⊎◌, List, [], ◌∷◌, ◌++◌, Option, Some, None, refl, sym, ◌∙◌, subst, inl, inr, ⊎_elim, lt_of_not-le}
use Rattle.std.specs.List.{Contains}
use Rattle.std.proofs.lemmas.List.Elements.{Contains-append_left, Contains-push, Contains-push_cases}
use mathlib.Core.Option as core
use mathlib.Core.List.{IsPrefix}
use native.Mathlib.Decide.{dec_le}
use lib.ListN.{get_elem?}
use Rattle.vd_gate.specs.declared.story.PastTurn.{PastTurn}
use Rattle.vd_gate.specs.declared.pass.GatePass.{GatePass}
use Rattle.vd_gate.specs.declared.gate.Gate.{Gate}
use Rattle.vd_gate.specs.Turns.{entries_by}
use Rattle.vd_gate.specs.Passes.{number_of, seen_of, mine_of, made_of, IsFree, KnowsAllOf, IsHistoryOf}
use Rattle.vd_gate.specs.Gates.{base_at, IsPassOf, AreAllPasses}
use Rattle.vd_gate.specs.Rule.{MeetsRule}
use Rattle.atomic_table.specs.Table.{Final, Seen}
use Rattle.vd_gate.proofs.Ends.{last_table_tells}
use Rattle.vd_gate.proofs.Lists.{prefix_self, prefix_trans, contains_none}
use Rattle.vd_gate.proofs.Joining.{knows_all_of_trans}

module _ {S E : Type 0} where
  -- of all passes, main knows what those know that are not left
  pub record Gathers (g : Gate S E) (all left : List (GatePass S E)) (main : GatePass S E) : Type 0 where
    pub free : IsPassOf g main × IsFree main
    pub among : (p : GatePass S E) → Contains left p → Contains all p
    pub known : (p : GatePass S E) → Contains all p → Contains left p ⊎ KnowsAllOf main p
    pub made : number_of main ≡ 0 → (p : GatePass S E) × Contains all p × (number_of p ≡ 0) × (made_of p ≡ made_of main)

  pub knows_all_of_itself : (p : GatePass S E) → KnowsAllOf p p
  knows_all_of_itself p = record { seen = prefix_self (seen_of p); mine = λ n es c. c; first = λ z. z }

  pub gathers_at_first : (g : Gate S E) (all left : List (GatePass S E)) (main : GatePass S E) → AreAllPasses g all → all ≡ left ++ main ∷ [] → Gathers g all left main
  gathers_at_first g all left main w e =
      let here : Contains all main = subst (λ (l : List (GatePass S E)). Contains l main) (sym e) (Contains-push left main) in record {
        free = w.free main here;
        among = λ p c. subst (λ (l : List (GatePass S E)). Contains l p) (sym e) (Contains-append_left left (main ∷ []) p c);
        known = λ p c. ⊎_elim (λ (c : Contains left p). inl c) (λ (is : main ≡ p). inr (subst (λ (q : GatePass S E). KnowsAllOf main q) is (knows_all_of_itself main)))
            (Contains-push_cases left main p (subst (λ (l : List (GatePass S E)). Contains l p) e c));
        made = λ z. (main, here, z, refl);
      }

  pub gathers_next : (g : Gate S E) (all left rest : List (GatePass S E)) (main p next : GatePass S E) → Gathers g all left main → left ≡ rest ++ p ∷ [] → IsPassOf g next × IsFree next → KnowsAllOf next main × KnowsAllOf next p
      → (number_of next ≡ 0 → ((number_of main ≡ 0) × (made_of next ≡ made_of main)) ⊎ ((number_of p ≡ 0) × (made_of next ≡ made_of p))) → Gathers g all rest next
  gathers_next g all left rest main p next w e free knows made = record {
    free = free;
    among = λ q c. w.among q (subst (λ (l : List (GatePass S E)). Contains l q) (sym e) (Contains-append_left rest (p ∷ []) q c));
    known = λ q c. ⊎_elim
        (λ (c : Contains left q). ⊎_elim (λ (d : Contains rest q). inl d) (λ (is : p ≡ q). inr (subst (λ (r : GatePass S E). KnowsAllOf next r) is knows.1))
        (Contains-push_cases rest p q (subst (λ (l : List (GatePass S E)). Contains l q) e c)))
        (λ (k : KnowsAllOf main q). inr (knows_all_of_trans q main next knows.0 k)) (w.known q c);
    made = λ z. ⊎_elim
        (λ (m : (number_of main ≡ 0) × (made_of next ≡ made_of main)). let o = w.made m.0 in (o.0, o.1, o.2, o.3 ∙ sym m.1))
        (λ (m : (number_of p ≡ 0) × (made_of next ≡ made_of p)). (p, w.among p (subst (λ (l : List (GatePass S E)). Contains l p) (sym e) (Contains-push rest p)), m.0, sym m.1)) (made z);
  }

  knows_all_at_end : (g : Gate S E) (all left : List (GatePass S E)) (main : GatePass S E) → Gathers g all left main → left ≡ [] → (p : GatePass S E) → Contains all p → KnowsAllOf main p
  knows_all_at_end g all left main w none p c = ⊎_elim (λ (d : Contains left p). absurd (contains_none p (subst (λ (l : List (GatePass S E)). Contains l p) none d))) (λ (k : KnowsAllOf main p). k) (w.known p c)

  pub number_zero_at_end : (g : Gate S E) (all left : List (GatePass S E)) (main : GatePass S E) → AreAllPasses g all → Gathers g all left main → left ≡ [] → number_of main ≡ 0
  number_zero_at_end g all left main a w none = (knows_all_at_end g all left main w none a.first.0 a.first.1).first a.first.2

  pub lists_at_end : (g : Gate S E) (all left : List (GatePass S E)) (main : GatePass S E) → AreAllPasses g all → Gathers g all left main → left ≡ [] → (n : ℕ) → n < made_of main → (es : List E) × Contains (mine_of main) (n, es)
  lists_at_end g all left main a w none n below =
      let o = w.made (number_zero_at_end g all left main a w none) in
      let h = a.lists o.0 o.1 o.2 n (subst (λ (k : ℕ). n < k) (sym o.3) below) in
      (h.1, (knows_all_at_end g all left main w none h.0 h.2).mine n h.1 h.3)

  pub is_history_of : (g : Gate S E) (all left : List (GatePass S E)) (main : GatePass S E) (turns : List (PastTurn E)) → AreAllPasses g all → Gathers g all left main → left ≡ [] → IsPrefix (seen_of main) turns
      → ((n : ℕ) (es : List E) → Contains (mine_of main) (n, es) → entries_by n turns ≡ es) → ((n : ℕ) → made_of main ≤ n → entries_by n turns ≡ []) → IsHistoryOf all turns
  is_history_of g all left main turns a w none seen mine others = record {
    seen = λ p c. prefix_trans (seen_of p) (seen_of main) turns (knows_all_at_end g all left main w none p c).seen seen;
    mine = λ p n es c d. mine n es ((knows_all_at_end g all left main w none p c).mine n es d);
    others = λ n lacks. elim (dec_le (made_of main) n) [
      | yes le ↦ others n le
      | no d ↦ absurd (
          let o = w.made (number_zero_at_end g all left main a w none) in
          lacks (a.lists o.0 o.1 o.2 n (subst (λ (k : ℕ). n < k) (sym o.3) (lt_of_not-le d))))
    ];
  }

  -- what the last state of the table tells
  pub last_state_tells : (stands : ℕ → S → List (PastTurn E) → Type 0) (g : Gate S E) (all left : List (GatePass S E)) (main : GatePass S E) (ws : List ℕ) (xs : List (Option S)) → AreAllPasses g all → Gathers g all left main → left ≡ []
      → Final (Seen (MeetsRule stands (base_at g)) main.seat.id main.seat.me.0) ws xs → (turns : List (PastTurn E)) × (x : S) × (get_elem? xs 0 ≡ core.some (Some x)) × stands (base_at g) x turns × IsHistoryOf all turns
  last_state_tells stands g all left main ws xs a w none final =
      let free = w.free.1 in let usable = free.usable in
      let e = last_table_tells stands (base_at g) main.seat.id main.seat.me.0 ws xs usable.live (sym usable.number ∙ number_zero_at_end g all left main a w none) usable.given free.no_turn (lists_at_end g all left main a w none) final in
      (e.0, e.1, e.2, e.3, is_history_of g all left main e.0 a w none e.4 e.5 e.6)

module _ {S : Type 0} where
  pub found_is : (xs : List (Option S)) (x : S) (found : Option S) → get_elem? xs 0 ≡ core.some (Some x) → get_elem? xs 0 ≡ core.some found → found ≡ Some x
  found_is xs x found e f = core.some-injective found (Some x) (sym f ∙ e)

  pub some-injective : (x y : S) → Some x ≡ Some y → x ≡ y
  some-injective x y e = cc

  pub found_is_some : (x : S) (found : Option S) → found ≡ Some x → found ≡ None → ⊥
  found_is_some x found e f = let c : ◌≡◌ {A = Option S} None (Some x) = sym f ∙ e in cc
