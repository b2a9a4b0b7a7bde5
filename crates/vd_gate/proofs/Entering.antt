-- From one step of a pass that enters to the next.
use Rattle.std.proofs.Common.{◌≡◌, ◌≢◌, ℕ, ◌%◌, true, List, ◌∷◌, Option, Some, None, refl, ap, sym, ◌∙◌, subst}
use Rattle.std.specs.List.{Contains}
use mathlib.Core.List.{IsPrefix}
use Rattle.atomic_table.specs.Table.{rest}
use Rattle.vd_gate.specs.declared.story.PastTurn.{PastTurn}
use Rattle.vd_gate.specs.declared.view.View.{View}
use Rattle.vd_gate.specs.Turns.{entries_by}
use Rattle.vd_gate.specs.Rule.{modulus}
use Rattle.vd_gate.specs.Views.{SeatState, with_seen, with_turn_held}
use Rattle.vd_gate.specs.Steps.{TakesTurn, HasLooked, HasDrawn, HasEntered}
use Rattle.vd_gate.proofs.Lists.{prefix_self, prefix_trans}

module _ {S : Type 0} where
  slot_lists_equal : (a b : ℕ × Option S) (xs ys : List (ℕ × Option S)) → a ∷ xs ≡ b ∷ ys → (a.1 ≡ b.1) × (xs ≡ ys)
  slot_lists_equal a b xs ys e = let pair : a ≡ b = cc in (ap (λ (p : ℕ × Option S). p.1) pair, cc)

  some-injective : (x y : S) → Some x ≡ Some y → x ≡ y
  some-injective x y e = cc

module _ {S E : Type 0} where
  pub has_looked_self : (m : SeatState S E) → HasLooked m m
  has_looked_self m = (m.0.seen, prefix_self m.0.seen, refl, refl)

  pub has_looked_on : (m k l : SeatState S E) → HasLooked m k → (l.1 ≡ k.1) × ((seen : List (PastTurn E)) × IsPrefix k.0.seen seen × (l.0 ≡ with_seen seen k.0)) → HasLooked m l
  has_looked_on m k l (s, p, is, slots) (same, (t, q, now)) =
      (t, prefix_trans m.0.seen s t p (subst (λ (v : View E). IsPrefix v.seen t) is q), now ∙ ap (with_seen t) is, same ∙ slots)

  -- what stays at a look
  pub has_looked-ticket : (m k : SeatState S E) → HasLooked m k → k.0.ticket ≡ m.0.ticket
  has_looked-ticket m k l = ap (λ (v : View E). v.ticket) l.2

  pub has_looked-holds : (m k : SeatState S E) → HasLooked m k → k.0.holds ≡ m.0.holds
  has_looked-holds m k l = ap (λ (v : View E). v.holds) l.2

  pub has_looked-live : (m k : SeatState S E) → HasLooked m k → k.0.live ≡ m.0.live
  has_looked-live m k l = ap (λ (v : View E). v.live) l.2

  -- the state is taken out of the slot that a step gave
  pub has_entered_of : (stands : ℕ → S → List (PastTurn E) → Type 0) (m k l : SeatState S E) (found : Option S) (state : S) → TakesTurn stands m k → k.1 ≡ (0, found) ∷ rest k.1
      → l ≡ (k.0, (0, None) ∷ rest k.1) → found ≡ Some state → HasEntered stands state m l
  has_entered_of stands m k l found state (seen, there, p, is, slots, for, mine) was now got =
      let h = slot_lists_equal (0, found) (0, Some there) (rest k.1) m.1 (sym was ∙ slots) in
      let same : there ≡ state = some-injective there state (sym h.0 ∙ got) in (
        seen,
        p,
        ap (λ (n : SeatState S E). n.0) now ∙ is,
        ap (λ (n : SeatState S E). n.1) now ∙ ap (λ (r : List (ℕ × Option S)). (0, None) ∷ r) h.1,
        subst (λ (x : S). stands m.0.base x seen) same for,
        mine,
      )

  abbrev ServingTold : (ℕ → S → List (PastTurn E) → Type 0) → ℕ → SeatState S E → SeatState S E → Type 0
  ServingTold stands r j k = (y : ℕ) → j.0.ticket ≡ Some y → (r ≡ y % modulus → TakesTurn stands j k) × (r ≢ y % modulus → k ≡ j)

  -- the ticket was served
  pub takes_turn_of : (stands : ℕ → S → List (PastTurn E) → Type 0) (m j k : SeatState S E) (x r ticket : ℕ) → j ≡ m → m.0.ticket ≡ Some x → x % modulus ≡ ticket → r ≡ ticket → ServingTold stands r j k → TakesTurn stands m k
  takes_turn_of stands m j k x r ticket same has low hit told =
      subst (λ (n : SeatState S E). TakesTurn stands n k) same ((told x (ap (λ (n : SeatState S E). n.0.ticket) same ∙ has)).0 (hit ∙ sym low))

  pub slot_of_turn : (stands : ℕ → S → List (PastTurn E) → Type 0) (m k : SeatState S E) → TakesTurn stands m k → (old : Option S) × (k.1 ≡ (0, old) ∷ rest k.1)
  slot_of_turn stands m k (seen, there, p, is, slots, for, mine) = (Some there, slots ∙ ap (λ (r : List (ℕ × Option S)). (0, Some there) ∷ r) (sym (ap rest slots)))

  -- a seat that has drawn a ticket and entered
  pub record HasTurn (stands : ℕ → S → List (PastTurn E) → Type 0) (state : S) (m l : SeatState S E) : Type 0 where
    pub ticket : ℕ
    pub view_is : l.0 ≡ record m.0 { seen = l.0.seen; ticket = Some ticket; holds = true }
    pub slot : l.1 ≡ (0, None) ∷ m.1
    pub seen : IsPrefix m.0.seen l.0.seen
    pub for : stands m.0.base state l.0.seen
    pub mine : (n : ℕ) (es : List E) → Contains m.0.mine (n, es) → entries_by n l.0.seen ≡ es

  pub has_turn_of : (stands : ℕ → S → List (PastTurn E) → Type 0) (m k l : SeatState S E) (found : ℕ) (state : S) → HasDrawn found m k → HasEntered stands state k l → HasTurn stands state m l
  has_turn_of stands m k l found state (s, x, p, low, drawn, same) (t, q, now, slots, for, mine) =
      let view : l.0 ≡ record m.0 { seen = t; ticket = Some x; holds = true } = now ∙ ap (with_turn_held t) drawn in
      let seen : t ≡ l.0.seen = sym (ap (λ (v : View E). v.seen) view) in record {
        ticket = x;
        view_is = view ∙ ap (λ (h : List (PastTurn E)). record m.0 { seen = h; ticket = Some x; holds = true }) seen;
        slot = slots ∙ ap (λ (r : List (ℕ × Option S)). (0, None) ∷ r) same;
        seen = subst (λ (h : List (PastTurn E)). IsPrefix m.0.seen h) seen (prefix_trans m.0.seen s t p (subst (λ (v : View E). IsPrefix v.seen t) drawn q));
        for = subst (λ (v : View E × List (PastTurn E)). stands v.0.base state v.1) (λ i. (drawn i, seen i)) for;
        mine = λ n es c. subst (λ (h : List (PastTurn E)). entries_by n h ≡ es) seen (mine n es (subst (λ (v : View E). Contains v.mine (n, es)) (sym drawn) c));
      }
