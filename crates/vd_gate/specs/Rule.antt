-- The gate's rule, which holds between any two steps: it ties the three words, the slot and all views to one history.
-- Word 0 is the next ticket, word 1 the ticket that is served, and word 2 the number of passes made. A ticket is an unbounded number, the words count modulo 2^64.
-- Seats come by splits alone, in order, so that the number of a pass is that of its seat.
use Rattle.std.specs.Prelude.{◌≡◌, ℕ, ◌+◌, ◌%◌, ◌<◌, ◌≤◌, true, false, List, [], ◌∷◌, length, Option, Some, is_some, if◌then◌else◌}
use Rattle.std.specs.List.{Contains}
use mathlib.Core.Option as core
use mathlib.Core.List.{IsPrefix}
use lib.ListN.{get_elem?}
use Rattle.atomic_table.specs.Table.{State}
use Rattle.vd_gate.specs.declared.story.PastTurn.{PastTurn}
use Rattle.vd_gate.specs.declared.view.View.{View}
use Rattle.vd_gate.specs.Turns.{entries_by}

-- 2^64, as the words wrap
abbrev pub modulus : ℕ
modulus = 18446744073709551616

-- what all views are about: the history, the tickets out, the seats, the numbers drawn, of each number the seat that answers for it, and of each ticket the seat that has it.
-- The two maps stand in the rule alone. 'Each ticket once' and 'each number once' are then equations, with no case for each pair of views.
pub record GateState (E : Type 0) : Type 0 where
  pub history : List (PastTurn E)
  pub tickets_out : ℕ
  pub seats : ℕ
  pub made : ℕ
  pub owner : ℕ → ℕ
  pub holder : ℕ → ℕ

module _ {E : Type 0} where
  -- such a state, by its parts
  abbrev pub gate_state : List (PastTurn E) → ℕ → ℕ → ℕ → (ℕ → ℕ) → (ℕ → ℕ) → GateState E
  gate_state history tickets_out seats made owner holder = record { history = history; tickets_out = tickets_out; seats = seats; made = made; owner = owner; holder = holder }

  -- what the rule asks of one view, at its seat
  pub record Fits (base : ℕ) (g : GateState E) (seat : ℕ) (v : View E) : Type 0 where
    pub living : v.live ≡ true → (v.number ≡ seat) × (v.base ≡ base) × (g.owner seat ≡ seat)
    pub seen : IsPrefix v.seen g.history
    pub told : (xs : List (PastTurn E)) → Contains v.told xs → IsPrefix xs g.history
    pub mine : (n : ℕ) (es : List E) → Contains v.mine (n, es) → (n < g.seats) × (g.owner n ≡ seat) × (entries_by n g.history ≡ es)
    pub ticket : (x : ℕ) → v.ticket ≡ Some x → (v.live ≡ true) × (length g.history ≤ x) × (x < length g.history + g.tickets_out) × (g.holder x ≡ seat)
    pub holds : v.holds ≡ true → (v.ticket ≡ Some (length g.history)) × (v.seen ≡ g.history)
    pub first : seat ≡ 0 → (v.live ≡ true) × (v.made ≡ g.made) × (g.seats + (if v.drawn then 1 else 0) ≡ g.made)

  -- 1 for a view with a ticket, else 0
  abbrev pub ticket_count : View E → ℕ
  ticket_count v = if is_some v.ticket then 1 else 0

  -- how many views have a ticket
  abbrev pub tickets_out : List (View E) → ℕ
  tickets_out [] = 0
  tickets_out (v ∷ vs) = ticket_count v + tickets_out vs

  -- no view has the turn
  abbrev pub NoTurnHeld : List (View E) → Type 0
  NoTurnHeld views = (j : ℕ) (v : View E) → get_elem? views j ≡ core.some v → v.holds ≡ false

-- the rule of a gate over a base, where `stands` says for which turns a state stands
pub record MeetsRule {E S : Type 0} (stands : ℕ → S → List (PastTurn E) → Type 0) (base : ℕ) (s : State (Option S) (View E)) : Type 0 where
  pub history : List (PastTurn E)
  pub made : ℕ
  pub owner : ℕ → ℕ
  pub holder : ℕ → ℕ
  pub words : s.words ≡ (length history + tickets_out s.views) % modulus ∷ length history % modulus ∷ made ∷ []
  pub few : (made ≤ 64) × (length s.views ≤ made)
  pub each : (j : ℕ) (v : View E) → get_elem? s.views j ≡ core.some v → Fits base (gate_state history (tickets_out s.views) (length s.views) made owner holder) j v
  pub fresh : (n : ℕ) → length s.views ≤ n → entries_by n history ≡ []
  pub slots : length s.homes ≡ 1
  pub home : NoTurnHeld s.views → (x : S) × (s.homes ≡ core.some (Some x) ∷ []) × stands base x history
