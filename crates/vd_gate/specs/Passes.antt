-- What a clause sees of a pass and of a turn, and how the calls change a pass.
use Rattle.std.specs.Prelude.{◌≡◌, ℕ, ◌+◌, ◌<◌, ◌≤◌, true, false, List, [], ◌∷◌, ◌++◌, None, is_some, if◌then◌else◌}
use Rattle.std.specs.List.{Contains}
use mathlib.Core.List.{IsPrefix}
use Rattle.vd_gate.specs.declared.story.PastTurn.{PastTurn}
use Rattle.vd_gate.specs.declared.pass.GatePass.{GatePass}
use Rattle.vd_gate.specs.declared.pass.Turn.{Turn}
use Rattle.vd_gate.specs.Turns.{entries_by, with_turn, HasLists}
use Rattle.vd_gate.specs.Views.{longer}

module _ {S E : Type 0} where
  -- the pass's number, from 0
  abbrev pub number_of : GatePass S E → ℕ
  number_of p = p.number

  -- the base of its gate
  abbrev pub base_of : GatePass S E → ℕ
  base_of p = p.seat.me.0.base

  -- the history as the pass saw it last
  abbrev pub seen_of : GatePass S E → List (PastTurn E)
  seen_of p = p.seat.me.0.seen

  -- one list of entries for each number that the pass answers for: its own and those that it took over
  abbrev pub mine_of : GatePass S E → List (ℕ × List E)
  mine_of p = p.seat.me.0.mine

  -- how many of its own turns had no entry
  abbrev pub blank_of : GatePass S E → ℕ
  blank_of p = p.seat.me.0.blank

  -- how many passes were made so far, in the pass of number 0
  abbrev pub made_of : GatePass S E → ℕ
  made_of p = p.seat.me.0.made

  -- the turns before this one
  abbrev pub turns_of : Turn S E → List (PastTurn E)
  turns_of t = t.at.value.me.0.seen

  -- what every pass keeps: its fields say what its view says, its number is below 64, and it has one list for each number that it answers for, its own among them
  pub record IsUsable (p : GatePass S E) : Type 0 where
    pub live : p.seat.me.0.live ≡ true
    pub given : p.seat.me.0.drawn ≡ false
    pub number : p.number ≡ p.seat.me.0.number
    pub below : number_of p < 64
    pub made : (p.made ≡ p.seat.me.0.made) × (p.seat.me.0.made ≤ 64)
    pub lists : HasLists (number_of p) (mine_of p)

  -- the pass is in no turn
  pub record IsFree (p : GatePass S E) : Type 0 where
    pub usable : IsUsable p
    pub no_ticket : p.seat.me.0.ticket ≡ None
    pub no_turn : p.seat.me.0.holds ≡ false
    pub no_slot : p.seat.me.1 ≡ []

  -- the pass is in this turn
  pub record IsIn (t : Turn S E) (p : GatePass S E) : Type 0 where
    pub usable : IsUsable p
    pub turn : p.seat.me.0.holds ≡ true
    pub slot : p.seat.me.1 ≡ (0, None) ∷ []
    pub same_gate : t.at.value.table_id ≡ p.seat.table_id
    pub same_pass : t.at.value.id ≡ p.seat.id
    pub turns : turns_of t ≡ seen_of p

  -- q is the pass p, where no more than what it has seen may have changed
  pub record SameButSeen (p q : GatePass S E) : Type 0 where
    pub number : number_of q ≡ number_of p
    pub base_is : base_of q ≡ base_of p
    pub mine : mine_of q ≡ mine_of p
    pub blank : blank_of q ≡ blank_of p
    pub made : made_of q ≡ made_of p

  -- q is the pass p, where no more than the number of passes made may have changed
  pub record SameButMade (p q : GatePass S E) : Type 0 where
    pub number : number_of q ≡ number_of p
    pub base_is : base_of q ≡ base_of p
    pub seen : seen_of q ≡ seen_of p
    pub mine : mine_of q ≡ mine_of p
    pub blank : blank_of q ≡ blank_of p

  -- t is a turn of the pass p, and the state stands for the turns before this one and t
  pub record IsNextTurn (stands : ℕ → S → List (PastTurn E) → Type 0) (turn : Turn S E) (p : GatePass S E) (state : S) (t : PastTurn E) : Type 0 where
    pub number : t.number ≡ number_of p
    pub after : stands (base_of p) state (turns_of turn ++ t ∷ [])

  -- q is the pass p after its turn t: the history seen has t more, and the entry of t, if any, joins the list of its number
  pub record Leaves (t : PastTurn E) (p q : GatePass S E) : Type 0 where
    pub number : number_of q ≡ number_of p
    pub base_is : base_of q ≡ base_of p
    pub seen : seen_of q ≡ seen_of p ++ t ∷ []
    pub mine : mine_of q ≡ with_turn t (mine_of p)
    pub blank : blank_of q ≡ blank_of p + (if is_some t.entry then 0 else 1)
    pub made : made_of q ≡ made_of p

  -- q is the pass p after it has taken over the numbers of o: it has the longer of both `seen`, of which both are prefixes, and the lists of both
  pub record TakesOver (p o q : GatePass S E) : Type 0 where
    pub number : number_of q ≡ number_of p
    pub base_is : base_of q ≡ base_of p
    pub seen : seen_of q ≡ longer (seen_of p) (seen_of o)
    pub own : IsPrefix (seen_of p) (seen_of q)
    pub other : IsPrefix (seen_of o) (seen_of q)
    pub mine : mine_of q ≡ mine_of p ++ mine_of o
    pub blank : blank_of q ≡ blank_of p
    pub made : made_of q ≡ made_of p

  -- the pass of number 0 of a new gate
  pub record IsFirstPass (p : GatePass S E) : Type 0 where
    pub number : number_of p ≡ 0
    pub seen : seen_of p ≡ []
    pub mine : mine_of p ≡ (0, []) ∷ []
    pub blank : blank_of p ≡ 0
    pub made : made_of p ≡ 1

  -- q is a new pass of number n, which has seen what p had seen and has entered nothing
  pub record IsNewPass (n : ℕ) (p q : GatePass S E) : Type 0 where
    pub number : number_of q ≡ n
    pub base_is : base_of q ≡ base_of p
    pub seen : seen_of q ≡ seen_of p
    pub mine : mine_of q ≡ (n, []) ∷ []
    pub blank : blank_of q ≡ 0

  -- one of the passes has a list for the number n
  abbrev pub HasListFor : List (GatePass S E) → ℕ → Type 0
  HasListFor passes n = (p : GatePass S E) × (es : List E) × Contains passes p × Contains (mine_of p) (n, es)

  -- what the pass p knows, q knows too
  pub record KnowsAllOf (q p : GatePass S E) : Type 0 where
    pub seen : IsPrefix (seen_of p) (seen_of q)
    pub mine : (n : ℕ) (es : List E) → Contains (mine_of p) (n, es) → Contains (mine_of q) (n, es)
    pub first : number_of p ≡ 0 → number_of q ≡ 0

  -- these turns are the history of these passes: each has seen a prefix of it, its entries of each number are exactly that number's list, and a number without a list has none
  pub record IsHistoryOf (passes : List (GatePass S E)) (turns : List (PastTurn E)) : Type 0 where
    pub seen : (p : GatePass S E) → Contains passes p → IsPrefix (seen_of p) turns
    pub mine : (p : GatePass S E) (n : ℕ) (es : List E) → Contains passes p → Contains (mine_of p) (n, es) → entries_by n turns ≡ es
    pub others : (n : ℕ) → ¬ HasListFor passes n → entries_by n turns ≡ []
