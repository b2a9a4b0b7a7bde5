-- How a table of structs is filled with those that a part sees.
use Rattle.std.specs.Prelude.{◌≡◌, ◌≢◌, ◌≤◌, ◌⊎◌, ℕ, Bool, true, false, List, [], ◌∷◌, ◌++◌, length, Some, None, slice_get}
use Rattle.vd_base.specs.Layout.{Table, are_fields, has_struct, refusal}
use Rattle.vd_sized.specs.declared.order.StructSeen.{StructSeen}

-- it stands in a list
abbrev pub Stands : List StructSeen → StructSeen → Type 0
Stands structs s = (j : ℕ) × (slice_get structs j ≡ Some s)

-- The struct is added to a table, which does not refuse it.
pub record IsTaken (old : Table) (s : StructSeen) (new : Table) : Type 0 where
  pub filled : are_fields s.fields.now ≡ true
  pub allowed : refusal old s.name.now s.fields.now ≡ None
  pub added : new ≡ (s.name.now, s.fields.now) ∷ old

-- the table refuses the struct, or it has no fields that a struct may have
abbrev pub IsRefused : Table → StructSeen → Type 0
IsRefused table s = are_fields s.fields.now ≡ true → refusal table s.name.now s.fields.now ≢ None

-- whether a struct is taken, and the table then
abbrev pub IsTried : Table → StructSeen → Table → Bool → Type 0
IsTried old s new true = IsTaken old s new
IsTried old s new false = (new ≡ old) × IsRefused old s

-- A table grows by some of these structs.
pub data Grows (among : List StructSeen) (old : Table) : Table → Type 0 where
  same : Grows among old old
  more : {between new : Table} → Grows among old between → (s : StructSeen) → Stands among s → IsTaken between s new → Grows among old new

-- a struct that is tried is taken, or it is kept with those that are left
abbrev pub IsVisited : StructSeen → Table → Table → List StructSeen → List StructSeen → Type 0
IsVisited s old new left_before left = (IsTaken old s new × (left ≡ left_before)) ⊎ (IsRefused old s × (new ≡ old) × (left ≡ left_before ++ s ∷ []))

-- Each of the structs is tried once, and those that are not taken are left.
pub record Passes (old new : Table) (waiting left : List StructSeen) : Type 0 where
  pub grows : Grows waiting old new
  pub fewer : length left ≤ length waiting
  pub among : (s : StructSeen) → Stands left s → Stands waiting s
  pub done : (s : StructSeen) → Stands waiting s → (has_struct new s.name.now ≡ true) ⊎ Stands left s
  pub still : length left ≡ length waiting → (new ≡ old) × ((s : StructSeen) → Stands waiting s → IsRefused old s)

-- Each of the structs is in the table, or the table refuses it.
pub record Settles (old new : Table) (seen : List StructSeen) : Type 0 where
  pub grows : Grows seen old new
  pub settled : (s : StructSeen) → Stands seen s → (has_struct new s.name.now ≡ true) ⊎ IsRefused new s
