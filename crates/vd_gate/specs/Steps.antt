-- What each step on a word tells: of the seat m before, the number r that was found, and the seat k after. Its kinds are those of a ticket lock, those that number the passes, and one load after a join.
-- Taking the state out of the slot and putting one in change no word and no view, and tell nothing.
use Rattle.std.specs.Prelude.{◌≡◌, ◌≢◌, ℕ, ◌%◌, ◌≤◌, List, [], ◌∷◌, ◌++◌, length, Option, Some, None}
use Rattle.std.specs.List.{Contains}
use mathlib.Core.List.{IsPrefix}
use Rattle.atomic_table.specs.Table.{Step, rest}
use Rattle.vd_gate.specs.declared.story.PastTurn.{PastTurn}
use Rattle.vd_gate.specs.Turns.{entries_by}
use Rattle.vd_gate.specs.Views.{SeatState, with_seen, with_ticket, with_turn_held, after_turn, with_number_drawn, without_told}
use Rattle.vd_gate.specs.Rule.{modulus}

module _ {S E : Type 0} where
  -- a load of the ticket word: the history so far is seen
  abbrev pub LoadsTicket : Step (Option S) → SeatState S E → ℕ → SeatState S E → Type 0
  LoadsTicket st m r k = (k.1 ≡ m.1) × ((seen : List (PastTurn E)) × IsPrefix m.0.seen seen × (k.0 ≡ with_seen seen m.0))

  -- a compare and exchange of the ticket word: where it succeeds the ticket is drawn, else nothing changes
  abbrev pub DrawsTicket : Step (Option S) → SeatState S E → ℕ → SeatState S E → Type 0
  DrawsTicket st m r k = (k.1 ≡ m.1) × (r ≡ st.first → (x : ℕ) × (x % modulus ≡ r) × (k.0 ≡ with_ticket x m.0)) × (r ≢ st.first → k.0 ≡ m.0)

  -- the seat gets the turn, the history so far, the exact entries of each of its numbers, and the slot with a state that stands for that history
  abbrev pub TakesTurn : (ℕ → S → List (PastTurn E) → Type 0) → SeatState S E → SeatState S E → Type 0
  TakesTurn stands m k = (seen : List (PastTurn E)) × (state : S) × IsPrefix m.0.seen seen × (k.0 ≡ with_turn_held seen m.0) × (k.1 ≡ (0, Some state) ∷ m.1) × stands m.0.base state seen
      × ((n : ℕ) (es : List E) → Contains m.0.mine (n, es) → entries_by n seen ≡ es)

  -- a load of the serving word: where it shows the seat's ticket x the turn begins, else nothing changes
  abbrev pub LoadsServing : (ℕ → S → List (PastTurn E) → Type 0) → Step (Option S) → SeatState S E → ℕ → SeatState S E → Type 0
  LoadsServing stands st m r k = (x : ℕ) → m.0.ticket ≡ Some x → (r ≡ x % modulus → TakesTurn stands m k) × (r ≢ x % modulus → k ≡ m)

  -- the serving word goes on by one: the slot goes home, and the history has a turn t more, for which the state in the slot stands
  abbrev pub AdvancesServing : (ℕ → S → List (PastTurn E) → Type 0) → Step (Option S) → SeatState S E → ℕ → SeatState S E → Type 0
  AdvancesServing stands st m r k = (t : PastTurn E) × (state : S) × (t.number ≡ m.0.number) × (m.1 ≡ (0, Some state) ∷ rest m.1) × stands m.0.base state (m.0.seen ++ t ∷ []) × (k.0 ≡ after_turn t m.0) × (k.1 ≡ rest m.1)

  -- a compare and exchange of the passes word, which no other seat changes: the next number is drawn
  abbrev pub DrawsNumber : Step (Option S) → SeatState S E → ℕ → SeatState S E → Type 0
  DrawsNumber st m r k = (k.1 ≡ m.1) × (k.0 ≡ with_number_drawn m.0)

  -- a load after a join: what was seen by the two views begins what is seen now, and each number has one list
  abbrev pub LearnsOfJoin : Step (Option S) → SeatState S E → ℕ → SeatState S E → Type 0
  LearnsOfJoin st m r k = (k.1 ≡ m.1) × (k.0 ≡ without_told m.0) × ((xs : List (PastTurn E)) → Contains m.0.told xs → length xs ≤ length m.0.seen → IsPrefix xs m.0.seen)
      × ((n : ℕ) (es fs : List E) → Contains m.0.mine (n, es) → Contains m.0.mine (n, fs) → es ≡ fs)

  -- loads of the ticket word, any number of them
  abbrev pub HasLooked : SeatState S E → SeatState S E → Type 0
  HasLooked m k = (seen : List (PastTurn E)) × IsPrefix m.0.seen seen × (k.0 ≡ with_seen seen m.0) × (k.1 ≡ m.1)

  -- a ticket was drawn, and its low 64 bits are `found`
  abbrev pub HasDrawn : ℕ → SeatState S E → SeatState S E → Type 0
  HasDrawn found m k = (seen : List (PastTurn E)) × (x : ℕ) × IsPrefix m.0.seen seen × (x % modulus ≡ found) × (k.0 ≡ with_ticket x (with_seen seen m.0)) × (k.1 ≡ m.1)

  -- the turn has begun, and the state is taken out of the slot
  abbrev pub HasEntered : (ℕ → S → List (PastTurn E) → Type 0) → S → SeatState S E → SeatState S E → Type 0
  HasEntered stands state m k = (seen : List (PastTurn E)) × IsPrefix m.0.seen seen × (k.0 ≡ with_turn_held seen m.0) × (k.1 ≡ (0, None) ∷ m.1) × stands m.0.base state seen
      × ((n : ℕ) (es : List E) → Contains m.0.mine (n, es) → entries_by n seen ≡ es)
