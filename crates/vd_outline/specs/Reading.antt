-- What the readers of sections answer about bytes that stand within a text.
use Rattle.std.specs.Prelude.{◌≡◌, ◌⊎◌, ℕ, ◌+◌, Bool, true, false, not, List, [], ◌∷◌, ◌++◌, length, flat_map, codes, Option, None, Some, All}
use Rattle.std.specs.List.{list_all, list_any}
use Rattle.std.specs.Str.{bytes_eq}
use Rattle.vd_outline.specs.declared.outline.TextKind.{TextKind}
use Rattle.vd_outline.specs.declared.outline.TextKind.TheVariants.{Link}
use Rattle.vd_outline.specs.declared.section.Section.{Section}
use Rattle.vd_outline.specs.declared.section.SectionKind.{SectionKind}
use Rattle.vd_outline.specs.Lines.{lacks, is_line, is_end, joined}
use Rattle.vd_outline.specs.Outline.{Bytes, header_line, IsNamed, stands_in, IsSection, AreOnce, HasUnits}

-- the line is this word alone, or the word, a space and this name, and the word has no space
abbrev pub IsSplit : Bytes → Bytes → Option Bytes → Type 0
IsSplit line word None = (line ≡ word) × (lacks 32 word ≡ true)
IsSplit line word (Some name) = (line ≡ word ++ 32 ∷ name) × (lacks 32 word ≡ true)

-- the line is the header line of this kind and name, and may stand in a text of that kind
pub record IsHeader (text : TextKind) (line : Bytes) (kind : SectionKind) (name : Option Bytes) : Type 0 where
  pub is : line ≡ header_line kind name
  pub named : IsNamed kind name
  pub stands : stands_in kind text ≡ true

-- the bytes begin with these lines of a section, which do not end it
pub record HasInner (bytes : Bytes) (lines : List Bytes) (rest : Bytes) : Type 0 where
  pub cut : bytes ≡ joined lines ++ rest
  pub printable : list_all is_line lines ≡ true
  pub inside : list_all (λ line. not (is_end line)) lines ≡ true

-- the line `end` ends a section within so many bytes
pub record Ends (bytes : Bytes) (count : ℕ) : Type 0 where
  pub lines : List Bytes
  pub rest : Bytes
  pub inner : HasInner bytes lines (codes "end" ++ 10 ∷ rest)
  pub counted : count ≡ length (joined lines) + 4

-- no line begins these bytes that may stand within a section
pub record BeginsBadly (bytes : Bytes) : Type 0 where
  pub line : Bytes
  pub rest : Bytes
  pub cut : bytes ≡ line ++ 10 ∷ rest
  pub one : lacks 10 line ≡ true
  pub unprintable : is_line line ≡ false

-- where so many bytes are left, no line follows that may stand within a section
pub record Stops (bytes : Bytes) (left : ℕ) : Type 0 where
  pub lines : List Bytes
  pub rest : Bytes
  pub inner : HasInner bytes lines rest
  pub bad : (lacks 10 rest ≡ true) ⊎ BeginsBadly rest
  pub counted : left ≡ length rest

-- the first line is no header line that may stand behind those that were seen
pub record StopsAtHeader (kind : TextKind) (seen : Bytes → Bool) (bytes : Bytes) : Type 0 where
  pub line : Bytes
  pub rest : Bytes
  pub cut : bytes ≡ line ++ 10 ∷ rest
  pub one : lacks 10 line ≡ true
  pub bad : (section : SectionKind) (name : Option Bytes) → IsHeader kind line section name → seen line ≡ true

-- behind a header line that may stand comes no line that may stand
pub record StopsInside (kind : TextKind) (seen : Bytes → Bool) (bytes : Bytes) (left : ℕ) : Type 0 where
  pub line : Bytes
  pub rest : Bytes
  pub section : SectionKind
  pub name : Option Bytes
  pub cut : bytes ≡ line ++ 10 ∷ rest
  pub header : IsHeader kind line section name
  pub is_new : seen line ≡ false
  pub stops : Stops rest left

-- the bytes begin with no section; where so many are left, no line follows that may stand
abbrev pub SectionStops : TextKind → (Bytes → Bool) → Bytes → ℕ → Type 0
SectionStops kind seen bytes left = ((lacks 10 bytes ≡ true) × (left ≡ length bytes))
    ⊎ ((StopsAtHeader kind seen bytes × (left ≡ length bytes)) ⊎ StopsInside kind seen bytes left)

-- whether the header line of one of these sections is this line
abbrev pub has_header : List Section → Bytes → Bool
has_header sections line = list_any (λ s. bytes_eq (header_line s.kind s.name) line) sections

-- the bytes are these sections, all that a text of this kind may have behind its head line
pub record AreSections (kind : TextKind) (bytes : Bytes) (sections : List Section) : Type 0 where
  pub cut : bytes ≡ flat_map (λ s. s.text) sections
  pub each : All (IsSection kind) sections
  pub once : AreOnce sections
  pub units : HasUnits kind sections

-- the bytes begin with sections behind which no other follows; where so many are left, no line follows that may stand
pub record SectionsStop (kind : TextKind) (bytes : Bytes) (left : ℕ) : Type 0 where
  pub sections : List Section
  pub rest : Bytes
  pub cut : bytes ≡ flat_map (λ s. s.text) sections ++ rest
  pub each : All (IsSection kind) sections
  pub once : AreOnce sections
  pub stops : ((rest ≡ [] → ⊥) × SectionStops kind (has_header sections) rest left)
      ⊎ ((rest ≡ []) × (kind ≡ Link) × (sections ≡ []) × (left ≡ 0))
