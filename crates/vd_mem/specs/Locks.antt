-- Lock cells.
use Rattle.std.specs.Prelude.{ℕ, List, Option, None, Some}
use Rattle.vd_mem.specs.declared.value.Cell.{Cell}
use Rattle.vd_mem.specs.declared.value.Cell.TheVariants.{Data, Free, Held}
use Rattle.vd_mem.specs.Memory.{Block, cell_at}

-- a live cell that is a lock, free or held
abbrev pub IsLock : Option Cell → Type 0
IsLock None = ⊥
IsLock (Some (Data v)) = ⊥
IsLock (Some Free) = Unit {0}
IsLock (Some Held) = Unit {0}

abbrev pub IsLockAt : List Block → ℕ → ℕ → Type 0
IsLockAt m b o = IsLock (cell_at m b o)
