-- Names that head sections declare, in four name spaces.
use Rattle.std.specs.Prelude.{◌≡◌, ℕ, Bool, true, false, ◌&&◌, List, Option, None, Some, slice_get, []}
use Rattle.std.specs.Option.{option_and_then}
use Rattle.std.specs.Str.{bytes_eq}
use Rattle.vd_heads.specs.declared.content.Content.{Content}
use Rattle.vd_heads.specs.declared.content.Content.TheVariants as content
use Rattle.vd_heads.specs.declared.content.HeadSection.{HeadSection}
use Rattle.vd_heads.specs.declared.content.Part.{Part}
use Rattle.vd_heads.specs.declared.table.Space.{Space}
use Rattle.vd_heads.specs.declared.table.Space.TheVariants as space

abbrev pub Bytes : Type 0
Bytes = List ℕ

abbrev pub same_space : Space → Space → Bool
same_space space.Struct space.Struct = true
same_space space.Global space.Global = true
same_space space.Function space.Function = true
same_space space.Predicate space.Predicate = true
same_space _ _ = false

-- the name space and the name of what a section declares
abbrev pub declaration : Content → Option (Space × Bytes)
declaration (content.Struct own fields) = Some (space.Struct, own)
declaration (content.Global field init) = Some (space.Global, field.name)
declaration (content.Abstract own sorts twice) = Some (space.Predicate, own)
declaration (content.Pred pred twice) = Some (space.Predicate, pred.name)
declaration (content.Spec spec twice) = Some (space.Function, spec.name)
declaration _ = None

-- whether that is the name in this name space
abbrev pub is_that : Space → Bytes → Option (Space × Bytes) → Bool
is_that s name None = false
is_that s name (Some d) = same_space s d.0 && bytes_eq d.1 name

-- whether a section declares a name
abbrev pub declares : Space → Bytes → Content → Bool
declares s name c = is_that s name (declaration c)

-- a section of a part among others, both by their numbers from 0
abbrev pub section_at : List Part → ℕ → ℕ → Option HeadSection
section_at parts k i = option_and_then (λ p. slice_get p.sections i) (slice_get parts k)

-- The section of those numbers is this one.
abbrev pub IsSection : List Part → ℕ → ℕ → HeadSection → Type 0
IsSection parts k i s = section_at parts k i ≡ Some s

-- The section of those numbers declares the name by what it says.
pub record IsDeclared (parts : List Part) (s : Space) (name : Bytes) (k i : ℕ) (c : Content) : Type 0 where
  pub section : HeadSection
  pub stands : IsSection parts k i section
  pub says : section.content ≡ c
  pub named : declares s name c ≡ true

abbrev pub sections_in : Option Part → List HeadSection
sections_in None = []
sections_in (Some p) = p.sections
