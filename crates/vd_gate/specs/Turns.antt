-- Lists of turns, and the entries of each pass in them. A gate's history is such a list.
use Rattle.std.specs.Prelude.{◌≡◌, ℕ, ◌==◌, List, [], ◌∷◌, ◌++◌, map, option_to_list, if◌then◌else◌}
use Rattle.std.specs.List.{Contains}
use Rattle.vd_gate.specs.declared.story.PastTurn.{PastTurn}

module _ {E : Type 0} where
  -- the entry of a turn where the pass n took it, as a list of at most one
  abbrev pub entry_by : ℕ → PastTurn E → List E
  entry_by n t = if t.number == n then option_to_list t.entry else []

  -- the entries of the pass n, in order
  abbrev pub entries_by : ℕ → List (PastTurn E) → List E
  entries_by n [] = []
  entries_by n (t ∷ ts) = entry_by n t ++ entries_by n ts

  -- lists of entries by number, where a turn's entry joins the list of its number and the other lists stay
  abbrev pub with_turn : PastTurn E → List (ℕ × List E) → List (ℕ × List E)
  with_turn t mine = map (λ p. (p.0, p.1 ++ entry_by p.0 t)) mine

  -- lists of entries by number, one of them for the number n, and no two for one number
  pub record HasLists (n : ℕ) (mine : List (ℕ × List E)) : Type 0 where
    pub own : (es : List E) × Contains mine (n, es)
    pub one : (k : ℕ) (es fs : List E) → Contains mine (k, es) → Contains mine (k, fs) → es ≡ fs
