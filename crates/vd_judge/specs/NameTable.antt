-- A table of names with numbers.
use Rattle.std.specs.Prelude.{◌≡◌, ℕ, cond, List, Option, None, Some}
use Rattle.std.specs.Option.{option_or}
use Rattle.std.specs.Str.{bytes_eq}
use Rattle.std.specs.BTreeMap.{get_by}
use Rattle.std.specs.Cmp.Lexicographic.{slice_cmp}
use Rattle.std.specs.Ordering.{nat_cmp}
use Rattle.vd_judge.specs.declared.names.NameTable.{NameTable}
use Rattle.vd_judge.specs.Environment.{number_of}

-- the number of a name, where the table has it
abbrev pub number : NameTable → List ℕ → Option ℕ
number table name = get_by (λ k. slice_cmp nat_cmp name k.now) table.numbers

-- the table has the number of each of some names, of names that stand twice the first
abbrev pub Numbers : NameTable → List (List ℕ) → Type 0
Numbers table names = (name : List ℕ) → number table name ≡ number_of names name

-- a name has got this number, unless it had one
abbrev pub AddsNew : NameTable → NameTable → List ℕ → ℕ → Type 0
AddsNew old new name to = (other : List ℕ) → number new other ≡ option_or (number old other) (cond (bytes_eq name other) (Some to) None)
