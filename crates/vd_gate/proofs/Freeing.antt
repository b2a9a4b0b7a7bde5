-- A pass is usable and in no turn once it is made, has left a turn, or has taken another over.
use Rattle.std.proofs.Common.{◌≡◌, ℕ, ◌<◌, ◌≤◌, List, [], ◌∷◌, ◌++◌, Option, None, ap, sym, ◌∙◌, subst}
use Rattle.std.specs.List.{Contains}
use Rattle.std.proofs.lemmas.List.Elements.{Contains-append_left}
use Rattle.atomic_table.specs.Table.{rest}
use Rattle.vd_gate.specs.declared.story.PastTurn.{PastTurn}
use Rattle.vd_gate.specs.declared.view.View.{View}
use Rattle.vd_gate.specs.declared.pass.GatePass.{GatePass}
use Rattle.vd_gate.specs.Turns.{HasLists}
use Rattle.vd_gate.specs.Views.{SeatState, new_view, after_turn, joined_view, without_told}
use Rattle.vd_gate.specs.Passes.{IsUsable, IsFree}
use Rattle.vd_gate.proofs.Entries.{has_lists_new, has_lists_with_turn}

module _ {S E : Type 0} where
  -- a usable pass stays so where its number and what its view says of it stay, and its lists are in order
  usable_after : (p q : GatePass S E) → IsUsable p → q.number ≡ p.number → q.made ≡ p.made → q.seat.me.0.live ≡ p.seat.me.0.live → q.seat.me.0.drawn ≡ p.seat.me.0.drawn
      → q.seat.me.0.number ≡ p.seat.me.0.number → q.seat.me.0.made ≡ p.seat.me.0.made → HasLists p.number q.seat.me.0.mine → IsUsable q
  usable_after p q u number made live drawn same count lists = record {
    live = live ∙ u.live;
    given = drawn ∙ u.given;
    number = number ∙ (u.number ∙ sym same);
    below = subst (λ (n : ℕ). n < 64) (sym number) u.below;
    made = (made ∙ (u.made.0 ∙ sym count), subst (λ (n : ℕ). n ≤ 64) (sym count) u.made.1);
    lists = subst (λ (n : ℕ). HasLists n q.seat.me.0.mine) (sym number) lists;
  }

  -- m is the seat once the state x is back in the slot
  pub free_after_turn : (p q : GatePass S E) (t : PastTurn E) (x : Option S) (m : SeatState S E) → IsUsable p → p.seat.me.1 ≡ (0, None) ∷ [] → m ≡ (p.seat.me.0, (0, x) ∷ rest p.seat.me.1)
      → q.number ≡ p.number → q.made ≡ p.made → q.seat.me.0 ≡ after_turn t m.0 → q.seat.me.1 ≡ rest m.1 → IsFree q
  free_after_turn p q t x m u slot put number made now gone =
      let view : q.seat.me.0 ≡ after_turn t p.seat.me.0 = now ∙ ap (λ (n : SeatState S E). after_turn t n.0) put in record {
        usable = usable_after p q u number made (ap (λ (v : View E). v.live) view) (ap (λ (v : View E). v.drawn) view) (ap (λ (v : View E). v.number) view) (ap (λ (v : View E). v.made) view)
            (subst (λ (v : View E). HasLists p.number v.mine) (sym view) (has_lists_with_turn p.number t p.seat.me.0.mine u.lists));
        no_ticket = ap (λ (v : View E). v.ticket) view;
        no_turn = ap (λ (v : View E). v.holds) view;
        no_slot = gone ∙ (ap (λ (n : SeatState S E). rest n.1) put ∙ ap rest slot);
      }

  -- k is the seat between the join and the load that follows
  pub free_after_join : (p q : GatePass S E) (w : View E) (k : SeatState S E) → IsFree p → k ≡ (joined_view p.seat.me.0 w, p.seat.me.1) → q.number ≡ p.number → q.made ≡ p.made → q.seat.me.1 ≡ k.1
      → q.seat.me.0 ≡ without_told k.0 → ((n : ℕ) (es fs : List E) → Contains k.0.mine (n, es) → Contains k.0.mine (n, fs) → es ≡ fs) → IsFree q
  free_after_join p q w k f joined number made slots now one =
      let u = f.usable in
      let view : q.seat.me.0 ≡ without_told (joined_view p.seat.me.0 w) = now ∙ ap (λ (n : SeatState S E). without_told n.0) joined in
      let lists : HasLists p.number (p.seat.me.0.mine ++ w.mine) = record {
        own = (u.lists.own.0, Contains-append_left p.seat.me.0.mine w.mine (p.number, u.lists.own.0) u.lists.own.1);
        one = subst (λ (n : SeatState S E). (n' : ℕ) (es fs : List E) → Contains n.0.mine (n', es) → Contains n.0.mine (n', fs) → es ≡ fs) joined one;
      } in record {
        usable = usable_after p q u number made (ap (λ (v : View E). v.live) view) (ap (λ (v : View E). v.drawn) view) (ap (λ (v : View E). v.number) view) (ap (λ (v : View E). v.made) view)
            (subst (λ (v : View E). HasLists p.number v.mine) (sym view) lists);
        no_ticket = ap (λ (v : View E). v.ticket) view ∙ f.no_ticket;
        no_turn = ap (λ (v : View E). v.holds) view ∙ f.no_turn;
        no_slot = slots ∙ (ap (λ (n : SeatState S E). n.1) joined ∙ f.no_slot);
      }

  -- a pass of a new seat, whose number is the seat's
  pub free_when_new : (q : GatePass S E) (base number : ℕ) (seen : List (PastTurn E)) → q.seat.me ≡ (new_view base number seen q.made, []) → q.number ≡ number → number < 64 → q.made ≤ 64 → IsFree q
  free_when_new q base number seen now is below few =
      let view : q.seat.me.0 ≡ new_view base number seen q.made = ap (λ (n : SeatState S E). n.0) now in record {
        usable = record {
          live = ap (λ (v : View E). v.live) view;
          given = ap (λ (v : View E). v.drawn) view;
          number = is ∙ sym (ap (λ (v : View E). v.number) view);
          below = subst (λ (n : ℕ). n < 64) (sym is) below;
          made = (sym (ap (λ (v : View E). v.made) view), subst (λ (n : ℕ). n ≤ 64) (sym (ap (λ (v : View E). v.made) view)) few);
          lists = subst (λ (s : ℕ × View E). HasLists s.0 s.1.mine) (λ i. (sym is i, sym view i)) (has_lists_new number);
        };
        no_ticket = ap (λ (v : View E). v.ticket) view;
        no_turn = ap (λ (v : View E). v.holds) view;
        no_slot = ap (λ (n : SeatState S E). n.1) now;
      }
