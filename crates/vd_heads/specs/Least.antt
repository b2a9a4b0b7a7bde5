-- The smallest place of what is so of a section.
use Rattle.std.specs.Prelude.{◌≡◌, ◌≤◌, ℕ, min, List, Option, None, Some}
use Rattle.vd_heads.specs.declared.content.Content.{Content}
use Rattle.vd_heads.specs.declared.content.HeadSection.{HeadSection}
use Rattle.vd_heads.specs.declared.content.Part.{Part}
use Rattle.vd_heads.specs.Declaration.{IsSection}

-- Something is so of what a section of the part says, and this is the place of its header line.
pub record IsPlaceOf (parts : List Part) (own : ℕ) (P : Content → Type 0) (place : ℕ) : Type 0 where
  pub number : ℕ
  pub section : HeadSection
  pub stands : IsSection parts own number section
  pub holds : P section.content
  pub place_is : place ≡ section.place

-- the smallest place at which something is so, or none
abbrev pub IsLeastOrNone : (ℕ → Type 0) → Option ℕ → Type 0
IsLeastOrNone F None = (at : ℕ) → F at → ⊥
IsLeastOrNone F (Some place) = F place × ((at : ℕ) → F at → place ≤ at)

-- the smaller of two places, or the one that there is
abbrev pub lesser : Option ℕ → ℕ → ℕ
lesser None other = other
lesser (Some place) other = min place other
