-- What the kept parts of a block stand for.
use Rattle.std.specs.Prelude.{◌≡◌, ℕ, ◌<◌, ◌==◌, cond, Option, None, Some, Bool, IsSome}
use Rattle.std.specs.Option.{unwrap_or}
use Rattle.std.specs.Ordering.{nat_cmp}
use Rattle.std.specs.BTreeMap.{BTreeMap, get}
use Rattle.vd_mem.specs.declared.value.Value.{Value}
use Rattle.vd_mem.specs.declared.value.Cell.{Cell}
use Rattle.vd_mem.specs.declared.value.Cell.TheVariants.{Data}
use Rattle.vd_mem.specs.Memory.{Block}
use Rattle.vd_mem.specs.Tabulate.{tabulate}

-- the cell at an offset: what was written there, else the value that the block began with
abbrev pub kept_cell : Value → BTreeMap ℕ Cell → ℕ → Cell
kept_cell fill written o = unwrap_or (get nat_cmp written o) (Data fill)

abbrev pub block_of : ℕ → Value → Bool → Bool → BTreeMap ℕ Cell → Block
block_of size fill live heap written =
    record { cells = tabulate size (kept_cell fill written); is_live = live; is_heap = heap }

-- only cells of the block were written
abbrev pub IsWithin : ℕ → BTreeMap ℕ Cell → Type 0
IsWithin size written = (o : ℕ) → IsSome (get nat_cmp written o) → o < size

-- a cell was written
abbrev pub WritesTo : BTreeMap ℕ Cell → BTreeMap ℕ Cell → ℕ → Cell → Type 0
WritesTo before after o c = (q : ℕ) → get nat_cmp after q ≡ cond (q == o) (Some c) (get nat_cmp before q)
