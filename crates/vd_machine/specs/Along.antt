-- A run that has gone on for some turns.
use Rattle.std.specs.Prelude.{◌≡◌, ◌⊎◌, ℕ, Bool, true, ◌+◌, ◌≤◌, List, take, drop, length, Option, None, Some}
use Rattle.vd_clight.specs.declared.program.Program.{Program}
use Rattle.vd_machine.specs.declared.answer.Turn.{Turn}
use Rattle.vd_machine.specs.declared.answer.Spot.{Spot}
use Rattle.vd_machine.specs.declared.answer.End.{End}
use Rattle.vd_machine.specs.declared.answer.End.TheVariants as finish
use Rattle.vd_machine.specs.declared.answer.Stepped.{Stepped}
use Rattle.vd_machine.specs.declared.answer.Stepped.TheVariants as stepped
use Rattle.vd_machine.specs.Machine.{Machine, FoundRace, NoRaceBefore}
use Rattle.vd_machine.specs.Race.{Races, LeastRace}
use Rattle.vd_machine.specs.Run.{Open, run, turns}
use Rattle.vd_machine.specs.Start.{first_system}
use Rattle.vd_machine.specs.Thread.{System}

-- the race of a state, with the turns before it
abbrev pub raced_after : ℕ → Option (ℕ × ℕ × Spot) → Option (ℕ × ℕ × ℕ × Spot)
raced_after i None = None
raced_after i (Some (n, k, p)) = Some (i, n, k, p)

-- the state is looked at
abbrev pub IsRaceNow : Machine → ℕ → Option (ℕ × ℕ × ℕ × Spot) → Type 0
IsRaceNow w i now = (found : Option (ℕ × ℕ × Spot)) × FoundRace w found × (now ≡ raced_after i found)

-- an earlier race stays; else there is none where the index shows it, or the state is looked at
abbrev pub IsNextRace : Machine → Bool → ℕ → Option (ℕ × ℕ × ℕ × Spot) → Option (ℕ × ℕ × ℕ × Spot) → Type 0
IsNextRace w watched i (Some before) now = now ≡ Some before
IsNextRace w watched i None now = ((watched ≡ true) × (now ≡ None)) ⊎ IsRaceNow w i now

-- the first race among the first i states after the start state, and that
abbrev pub IsRaceUpTo : Program → List Turn → ℕ → Option (ℕ × ℕ × ℕ × Spot) → Type 0
IsRaceUpTo p xs i None = (j : ℕ) (s : System) → j ≤ i → run p (take j xs) (first_system p) ≡ Open s → Races p.globals s → ⊥
IsRaceUpTo p xs i (Some (j, n, k, spot)) =
    NoRaceBefore p xs j × (j ≤ i) × ((s : System) × (run p (take j xs) (first_system p) ≡ Open s) × LeastRace p.globals s n k spot.block spot.offset)

-- after i turns the run goes on at the machine's state
pub record Along (p : Program) (xs : List Turn) (i : ℕ) (w : Machine) : Type 0 where
  pub program : w.program ≡ p
  pub finish : w.finish ≡ finish.Open
  pub steps : w.steps ≤ length p.globals + i
  pub ends : run p xs (first_system p) ≡ run p (drop i xs) w.system
  pub counts : turns p xs (first_system p) ≡ i + turns p (drop i xs) w.system
  pub front : run p (take i xs) (first_system p) ≡ Open w.system

-- how a run ends by a step, where it does
abbrev pub end_by : Stepped → Option End
end_by (stepped.Finished v) = Some (finish.Main v)
end_by (stepped.Stuck n c) = Some (finish.Stuck n c)
end_by _ = None
