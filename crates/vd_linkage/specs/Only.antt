-- What there is at most one of.
use Rattle.std.specs.Prelude.{◌≡◌, Option, None, Some}

-- There is none, or this one alone.
abbrev pub IsOnly : {A : Type 0} → (A → Type 0) → Option A → Type 0
IsOnly {A = A} P None = (x : A) → P x → ⊥
IsOnly {A = A} P (Some x) = P x × ((y : A) → P y → y ≡ x)
