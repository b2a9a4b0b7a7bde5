-- A block of memory changed, and the laws of memory: the cell or block that an operation is about, and the others.
use Rattle.std.proofs.Common.{◌≡◌, ◌≢◌, ℕ, ◌<◌, ◌≤◌, ◌+◌, Bool, true, false, cond, List, [], ◌∷◌, ◌++◌, length, get_or, slice_set, Option, Some, None, refl, sym, ◌∙◌, ap, subst, inl, inr, arith}
use Rattle.std.specs.Prelude.{IsSome, ◌⊎◌, slice_get, replicate}
use Rattle.std.specs.Option.{option_map}
use Rattle.std.proofs.lemmas.Option.{slice_get_read, slice_get_past}
use Rattle.std.proofs.lemmas.Bool.{cases_lt}
use Rattle.vd_mem.specs.declared.value.Value.{Value}
use Rattle.vd_mem.specs.declared.value.Cell.{Cell}
use Rattle.vd_mem.specs.Locks.{IsLock, IsLockAt}
use Rattle.vd_mem.specs.Memory.{Block, cell_of, cell_at, block_put, put, freed, block_freed}
use Rattle.vd_mem.specs.Tabulate.{changed}
use Rattle.vd_mem.proofs.Lists.{slice_set_changed}

-- where a live cell is, there is its block
pub within_memory : (m : List Block) (b o : ℕ) → IsSome (cell_at m b o) → b < length m
within_memory m b o h = by (cases_lt b (length m))
  where
    nothing : IsSome (cell_of None o) → ⊥
    nothing x = cc

    by : (b < length m) ⊎ (length m ≤ b) → b < length m
    by (inl l) = l
    by (inr l) = absurd (nothing (subst (λ x. IsSome (cell_of x o)) (slice_get_past m b l) h))

lock_is_some : (c : Option Cell) → IsLock c → IsSome c
lock_is_some None h = absurd h
lock_is_some (Some c) h = refl

pub lock_within : (m : List Block) (b o : ℕ) → IsLockAt m b o → b < length m
lock_within m b o h = within_memory m b o (lock_is_some (cell_at m b o) h)

-- the block read at a number, written back changed
pub written_back :
    (m : List Block) (b : ℕ) (f : Block → Block) (x y : Block) → b < length m → x ≡ get_or m b x → y ≡ f x → slice_set m b y ≡ changed m b f
written_back m b f x y l e h = slice_set_changed m b f x y (slice_get_read m (length m) b x refl l e) h
