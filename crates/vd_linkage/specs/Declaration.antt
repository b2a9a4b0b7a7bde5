-- What texts declare, and what is declared twice. There are four name spaces.
use Rattle.std.specs.Prelude.{◌≡◌, ◌⊎◌, ℕ, ◌<◌, List, ◌++◌, length, true, slice_get, Option, None, Some}
use Rattle.vd_heads.specs.declared.table.Space.{Space}
use Rattle.vd_heads.specs.declared.table.Space.TheVariants as space
use Rattle.vd_outline.specs.declared.outline.Outline.{Outline}
use Rattle.vd_outline.specs.declared.outline.TextKind.TheVariants.{Interface}
use Rattle.vd_outline.specs.declared.section.Section.{Section}
use Rattle.vd_outline.specs.declared.section.SectionKind.{SectionKind}
use Rattle.vd_outline.specs.declared.section.SectionKind.TheVariants as section
use Rattle.vd_outline.specs.Outline.{Bytes}
use Rattle.vd_linkage.specs.Closure.{Lists}
use Rattle.vd_linkage.specs.Form.{Entry}
use Rattle.vd_linkage.specs.Reading.{IsRead, has_name}
use Rattle.vd_linkage.specs.Texts.{IsOutlined}

-- the name space of what a section declares
abbrev pub space_of : SectionKind → Option Space
space_of section.Struct = Some space.Struct
space_of section.Global = Some space.Global
space_of section.Spec = Some space.Function
space_of section.Fn = Some space.Function
space_of section.Abstract = Some space.Predicate
space_of section.Pred = Some space.Predicate
space_of _ = None

-- The section is read and declares the name. One that is not read declares nothing.
pub record Declares (s : Section) (space : Space) (name : Bytes) : Type 0 where
  pub in_space : space_of s.kind ≡ Some space
  pub named : s.name ≡ Some name
  pub read : IsRead s.kind s.text

-- The section of number i of the text of number k declares the name.
pub record IsDeclared (os : List Outline) (space : Space) (name : Bytes) (k i : ℕ) : Type 0 where
  pub outline : Outline
  pub one : Section
  pub outline_at : slice_get os k ≡ Some outline
  pub one_at : slice_get outline.sections i ≡ Some one
  pub declares : Declares one space name

-- section i of text k stands before section j of text l
abbrev pub IsBefore : ℕ → ℕ → ℕ → ℕ → Type 0
IsBefore k i l j = (k < l) ⊎ ((k ≡ l) × (i < j))

-- an interface leaves what it declares so to a unit that exports it: the specification of a function, an abstract predicate
abbrev pub IsLeft : SectionKind → Type 0
IsLeft section.Spec = Unit {0}
IsLeft section.Abstract = Unit {0}
IsLeft _ = ⊥

-- The text exports an interface that leaves the name to it.
pub record Defines (texts : List Entry) (o : Outline) (space : Space) (name : Bytes) : Type 0 where
  pub exported : List Bytes
  pub exports : Lists section.Exports o exported
  pub interface : Bytes
  pub is_exported : has_name exported interface ≡ true
  pub outline : Outline
  pub outlined : IsOutlined texts Interface interface outline
  pub place : ℕ
  pub one : Section
  pub one_at : slice_get outline.sections place ≡ Some one
  pub declares : Declares one space name
  pub left : IsLeft one.kind

-- Interfaces, and then units, declare the name twice: in two texts, or in two sections of one interface; a unit's own specification and
-- function of one name are one declaration. Neither stands in a unit that so defines what an interface declares.
pub record IsTwice (texts : List Entry) (interfaces units : List Outline) (space : Space) (name : Bytes) : Type 0 where
  pub first_text : ℕ
  pub first_section : ℕ
  pub second_text : ℕ
  pub second_section : ℕ
  pub first : IsDeclared (interfaces ++ units) space name first_text first_section
  pub second : IsDeclared (interfaces ++ units) space name second_text second_section
  pub order : IsBefore first_text first_section second_text second_section
  pub apart : (first_text < second_text) ⊎ (first_text < length interfaces)
  pub first_is_own : Defines texts first.outline space name → ⊥
  pub second_is_own : Defines texts second.outline space name → ⊥

-- the first name that is declared twice, by the place of its first declaration
pub record IsFirstTwice (texts : List Entry) (interfaces units : List Outline) (name : Bytes) : Type 0 where
  pub space : Space
  pub text : ℕ
  pub place : ℕ
  pub declared : IsDeclared (interfaces ++ units) space name text place
  pub twice : IsTwice texts interfaces units space name
  pub before : (k i : ℕ) (other_space : Space) (other : Bytes) → IsBefore k i text place → IsDeclared (interfaces ++ units) other_space other k i → IsTwice texts interfaces units other_space other → ⊥
