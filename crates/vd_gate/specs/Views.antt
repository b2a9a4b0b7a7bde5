-- What each seat at a gate's table knows, its view, and how the steps change it.
-- Views are ghost state: no value of one is ever made. The table's rule ties all of them to its words and its slot.
use Rattle.std.specs.Prelude.{ℕ, ◌+◌, ◌-◌, true, false, List, [], ◌∷◌, ◌++◌, length, ltb, Option, Some, None, is_some, if◌then◌else◌}
use Rattle.atomic_table.specs.Table.{Me}
use Rattle.vd_gate.specs.declared.story.PastTurn.{PastTurn}
use Rattle.vd_gate.specs.declared.view.View.{View}
use Rattle.vd_gate.specs.Turns.{with_turn}

-- a seat's view, and the slots that it has taken with what is in them
abbrev pub SeatState : Type 0 → Type 0 → Type 0
SeatState S E = Me (Option S) (View E)

module _ {E : Type 0} where
  -- the view of a new pass, which has seen these turns
  abbrev pub new_view : ℕ → ℕ → List (PastTurn E) → ℕ → View E
  new_view base number seen made = record { live = true; base = base; number = number; seen = seen; mine = (number, []) ∷ []; blank = 0; ticket = None; holds = false; made = made; drawn = false; told = [] }

  -- the view after a look at the history so far
  abbrev pub with_seen : List (PastTurn E) → View E → View E
  with_seen seen v = record v { seen = seen }

  -- the view after ticket x was drawn
  abbrev pub with_ticket : ℕ → View E → View E
  with_ticket x v = record v { ticket = Some x }

  -- the view once its ticket is served, at the history so far
  abbrev pub with_turn_held : List (PastTurn E) → View E → View E
  with_turn_held seen v = record v { seen = seen; holds = true }

  -- the view once its turn t is over
  abbrev pub after_turn : PastTurn E → View E → View E
  after_turn t v = record v { seen = v.seen ++ t ∷ []; mine = with_turn t v.mine; blank = v.blank + (if is_some t.entry then 0 else 1); ticket = None; holds = false }

  -- the view of number 0 once it has drawn the next number
  abbrev pub with_number_drawn : View E → View E
  with_number_drawn v = record v { made = v.made + 1; drawn = true }

  -- the view of number 0 once the drawn number is given to a new pass
  abbrev pub with_number_given : View E → View E
  with_number_given v = record v { drawn = false }

  -- the view of the pass to which the drawn number is given
  abbrev pub split_view : View E → View E
  split_view v = new_view v.base (v.made - 1) v.seen 0

  -- the longer of two lists
  abbrev pub longer : List (PastTurn E) → List (PastTurn E) → List (PastTurn E)
  longer xs ys = if ltb (length xs) (length ys) then ys else xs

  -- the view v once it has taken over what w answers for. That both had seen a prefix of one history is known to the rule alone, so both stay in `told` until the next load tells it
  abbrev pub joined_view : View E → View E → View E
  joined_view v w = record v { seen = longer v.seen w.seen; mine = v.mine ++ w.mine; told = v.seen ∷ w.seen ∷ [] }

  -- the view that was taken over
  abbrev pub spent_view : View E
  spent_view = record { live = false; base = 0; number = 0; seen = []; mine = []; blank = 0; ticket = None; holds = false; made = 0; drawn = false; told = [] }

  -- the view once that load was made
  abbrev pub without_told : View E → View E
  without_told v = record v { told = [] }
