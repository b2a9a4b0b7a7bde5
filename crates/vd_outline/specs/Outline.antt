-- A text's outline: its head line, and its sections in their order.
use Rattle.std.specs.Prelude.{◌≡◌, ℕ, Bool, true, false, not, List, [], ◌∷◌, ◌++◌, flat_map, codes, Option, None, Some, All}
use Rattle.std.specs.List.{list_all}
use Rattle.vd_base.specs.Name.{is_name}
use Rattle.vd_outline.specs.declared.outline.Outline.{Outline}
use Rattle.vd_outline.specs.declared.outline.TextKind.{TextKind}
use Rattle.vd_outline.specs.declared.outline.TextKind.TheVariants.{Interface, Unit as UnitText, Link}
use Rattle.vd_outline.specs.declared.section.Section.{Section}
use Rattle.vd_outline.specs.declared.section.SectionKind.{SectionKind}
use Rattle.vd_outline.specs.declared.section.SectionKind.TheVariants as section
use Rattle.vd_outline.specs.Lines.{is_line, joined, is_end}

-- the bytes of a text, a line or a name
abbrev pub Bytes : Type 0
Bytes = List ℕ

-- ---- head lines

-- the word that a text of this kind begins with
abbrev pub kind_word : TextKind → Bytes
kind_word Interface = codes "interface"
kind_word UnitText = codes "unit"
kind_word Link = codes "link"

-- that word, a space and the name
abbrev pub head_line : TextKind → Bytes → Bytes
head_line kind name = kind_word kind ++ 32 ∷ name

-- the first line is the head line of this kind and name
pub record HasHead (text : Bytes) (kind : TextKind) (name : Bytes) : Type 0 where
  pub rest : Bytes
  pub cut : text ≡ head_line kind name ++ 10 ∷ rest
  pub named : is_name name ≡ true

-- ---- sections

-- the word that the header line of such a section begins with
abbrev pub section_word : SectionKind → Bytes
section_word section.Uses = codes "uses"
section_word section.Exports = codes "exports"
section_word section.Units = codes "units"
section_word section.Struct = codes "struct"
section_word section.Global = codes "global"
section_word section.Abstract = codes "abstract"
section_word section.Pred = codes "pred"
section_word section.Spec = codes "spec"
section_word section.Fn = codes "fn"
section_word section.Script = codes "script"
section_word section.Sub = codes "sub"
section_word section.Init = codes "init"

-- whether the header line has a name behind the word
abbrev pub takes_name : SectionKind → Bool
takes_name section.Uses = false
takes_name section.Exports = false
takes_name section.Units = false
takes_name section.Init = false
takes_name _ = true

-- in which texts a section may stand
abbrev pub stands_in : SectionKind → TextKind → Bool
stands_in section.Uses Interface = true
stands_in section.Uses UnitText = true
stands_in section.Exports UnitText = true
stands_in section.Units Link = true
stands_in section.Struct Interface = true
stands_in section.Struct UnitText = true
stands_in section.Global UnitText = true
stands_in section.Abstract Interface = true
stands_in section.Pred Interface = true
stands_in section.Pred UnitText = true
stands_in section.Spec Interface = true
stands_in section.Spec UnitText = true
stands_in section.Fn UnitText = true
stands_in section.Script UnitText = true
stands_in section.Sub UnitText = true
stands_in section.Init UnitText = true
stands_in _ _ = false

-- that word, and where there is a name a space and the name
abbrev pub header_line : SectionKind → Option Bytes → Bytes
header_line kind None = section_word kind
header_line kind (Some name) = section_word kind ++ 32 ∷ name

-- a name stands where the kind takes one
abbrev pub IsNamed : SectionKind → Option Bytes → Type 0
IsNamed kind None = takes_name kind ≡ false
IsNamed kind (Some name) = (takes_name kind ≡ true) × (is_name name ≡ true)

-- a section of a text of this kind: its header line, lines other than `end`, and the line `end`
pub record IsSection (kind : TextKind) (s : Section) : Type 0 where
  pub lines : List Bytes
  pub bytes : s.text ≡ joined (header_line s.kind s.name ∷ (lines ++ codes "end" ∷ []))
  pub printable : list_all is_line lines ≡ true
  pub inside : list_all (λ line. not (is_end line)) lines ≡ true
  pub named : IsNamed s.kind s.name
  pub stands : stands_in s.kind kind ≡ true

-- no section of that kind and name stands among these
abbrev pub IsNew : Section → List Section → Type 0
IsNew s [] = Unit {0}
IsNew s (t ∷ ts) = (header_line s.kind s.name ≡ header_line t.kind t.name → ⊥) × IsNew s ts

-- each kind and name stands at most once
abbrev pub AreOnce : List Section → Type 0
AreOnce [] = Unit {0}
AreOnce (s ∷ ss) = IsNew s ss × AreOnce ss

-- a link has its units alone
abbrev pub HasUnits : TextKind → List Section → Type 0
HasUnits Link sections = (s : Section) × (sections ≡ s ∷ [])
HasUnits _ sections = Unit {0}

-- the text is its head line and these sections
pub record Outlines (text : Bytes) (o : Outline) : Type 0 where
  pub named : is_name o.name ≡ true
  pub bytes : text ≡ head_line o.kind o.name ++ 10 ∷ flat_map (λ s. s.text) o.sections
  pub sections : All (IsSection o.kind) o.sections
  pub once : AreOnce o.sections
  pub units : HasUnits o.kind o.sections
