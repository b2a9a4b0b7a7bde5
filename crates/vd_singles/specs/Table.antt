-- Names of things of which each should stand once, with a number of each.
use Rattle.std.specs.Prelude.{◌≡◌, ℕ, List, [], ◌∷◌, map, Option, None, Some}
use Rattle.std.specs.List.{filter}
use Rattle.std.specs.Str.{bytes_eq}
use Rattle.std.specs.BTreeMap.{get_by}
use Rattle.std.specs.Cmp.Lexicographic.{slice_cmp}
use Rattle.std.specs.Ordering.{nat_cmp}
use Rattle.vd_singles.specs.declared.table.Table.{Table}

abbrev pub Bytes : Type 0
Bytes = List ℕ

-- the number of the one pair
abbrev pub only : List (Bytes × ℕ) → Option ℕ
only [] = None
only (p ∷ []) = Some p.1
only (p ∷ q ∷ ps) = None

-- the number of a name that just one of the pairs has
abbrev pub single : Bytes → List (Bytes × ℕ) → Option ℕ
single name pairs = only (filter (λ p. bytes_eq p.0 name) pairs)

-- what a table keeps of a name
abbrev pub kept : Table → Bytes → Option (Option ℕ)
kept t name = get_by (λ k. slice_cmp nat_cmp name k.now) t.numbers

-- what pairs tell of a name: nothing, its number, or that it stands more than once
abbrev pub told : List (Bytes × ℕ) → Option (Option ℕ)
told [] = None
told (p ∷ ps) = Some (only (p ∷ ps))

-- what is kept of a name that stands once more, with this number
abbrev pub told_more : Option (Option ℕ) → ℕ → Option ℕ
told_more None number = Some number
told_more (Some known) number = None

-- the table is that of these pairs
abbrev pub IsTable : Table → List (Bytes × ℕ) → Type 0
IsTable t pairs = (name : Bytes) → kept t name ≡ told (filter (λ p. bytes_eq p.0 name) pairs)

-- the table has these names, each as often as they do
abbrev pub CountsNames : List Bytes → Table → Type 0
CountsNames names t = IsTable t (map (λ n. (n, 0)) names)
