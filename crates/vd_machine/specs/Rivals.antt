-- What a search for the least race has found.
use Rattle.std.specs.Prelude.{ℕ, ◌<◌, List, Option, None, Some, length, slice_get}
use Rattle.vd_clight.specs.declared.program.GlobalDef.{GlobalDef}
use Rattle.vd_machine.specs.declared.answer.Spot.{Spot}
use Rattle.vd_machine.specs.declared.touch.Touched.{Touched}
use Rattle.vd_machine.specs.Race.{RaceAt, LeastRace}
use Rattle.vd_machine.specs.Thread.{System}
use Rattle.vd_machine.specs.Touches.{thread_touch, Clashes, IsLeastClash}

-- what the next statement of the thread of a number touches
abbrev pub touch_at : List GlobalDef → System → ℕ → Touched
touch_at globals s n = thread_touch globals (slice_get s.threads n)

-- a thread races with no later one below a number
abbrev pub NoRivalBelow : List GlobalDef → System → ℕ → ℕ → Type 0
NoRivalBelow globals s n k = (j b o : ℕ) → n < j → j < k → Clashes (touch_at globals s n) (touch_at globals s j) s.memory b o → ⊥

-- the threads below a number race with no later one
abbrev pub NoRivalsBelow : List GlobalDef → System → ℕ → Type 0
NoRivalsBelow globals s n = (j k b o : ℕ) → j < n → RaceAt globals s j k b o → ⊥

-- the least later thread that races with a thread, and their least cell
abbrev pub FoundRival : List GlobalDef → System → ℕ → Option (ℕ × Spot) → Type 0
FoundRival globals s n None = (k b o : ℕ) → RaceAt globals s n k b o → ⊥
FoundRival globals s n (Some (k, p)) =
    (n < k) × ((k < length s.threads) × (NoRivalBelow globals s n k × IsLeastClash (Some p) (touch_at globals s n) (touch_at globals s k) s.memory))

abbrev pub FoundRivals : List GlobalDef → System → Option (ℕ × ℕ × Spot) → Type 0
FoundRivals globals s None = (n k b o : ℕ) → RaceAt globals s n k b o → ⊥
FoundRivals globals s (Some (n, k, p)) = (k < length s.threads) × LeastRace globals s n k p.block p.offset
