-- The conditions under which a link's units fit together, as far as a program needs them. After Verified Software Units: imports are
-- matched with exports, and each name is declared once. Each is stated by itself, with what a report says where it fails. What main's
-- specification says of the initial memory, and that each work of the link is accepted, are no conditions of a program.
use Rattle.std.specs.Prelude.{◌≡◌, ◌⊎◌, ℕ, ◌+◌, ◌<◌, ◌-◌, ◌^◌, min, Bool, true, false, List, [], ◌∷◌, ◌++◌, length, slice_get, flat_map, codes, decimal, nat_le, Some, Err}
use Rattle.std.specs.List.{count_by}
use Rattle.std.specs.Str.{bytes_eq}
use Rattle.vd_base.specs.declared.ctype.CType.{Int}
use Rattle.vd_clight.specs.declared.syntax.FnText.{FnText}
use Rattle.vd_cparse.specs.Section.{IsFnSection}
use Rattle.vd_listing.specs.Listing.{IsListing}
use Rattle.vd_outline.specs.declared.outline.Outline.{Outline}
use Rattle.vd_outline.specs.declared.outline.TextKind.TheVariants.{Interface, Unit as UnitText, Link}
use Rattle.vd_outline.specs.declared.section.Section.{Section}
use Rattle.vd_outline.specs.declared.section.SectionKind.TheVariants as section
use Rattle.vd_outline.specs.Fault.{IsBadAt}
use Rattle.vd_outline.specs.Lookup.{section_called}
use Rattle.vd_outline.specs.Outline.{Bytes, Outlines, head_line}
use Rattle.vd_linkage.specs.Closure.{Lists}
use Rattle.vd_linkage.specs.Declaration.{IsLeft, IsFirstTwice}
use Rattle.vd_linkage.specs.Form.{Entry}
use Rattle.vd_linkage.specs.Reading.{IsRead, has_name}
use Rattle.vd_linkage.specs.Shape.{IsLink, Shape, HasShape}
use Rattle.vd_linkage.specs.Texts.{HasText, IsOutlined, IsMissing}

-- ---- 1: the link's text is in its grammar

-- where a link's text is outside its grammar, from its first byte
pub data IsFaultIn (text : Bytes) : ℕ → Type 0 where
  no_outline : {place : ℕ} → IsBadAt text place → IsFaultIn text place
  no_names : {o : Outline} {s : Section} {place : ℕ} → Outlines text o → o.sections ≡ s ∷ [] → IsListing s.text (Err place) → IsFaultIn text (length (head_line o.kind o.name) + 1 + place)

-- where the link's text is; where the name has no link's text it is at 0
pub data IsLinkFault (texts : List Entry) (link : Bytes) : ℕ → Type 0 where
  no_link : ((text : Bytes) → HasText texts Link link text → ⊥) → IsLinkFault texts link 0
  in_text : {text : Bytes} {place : ℕ} → HasText texts Link link text → IsFaultIn text place → IsLinkFault texts link place

-- ---- 2: the listed names are units, each once

-- the name stands more than once
abbrev pub is_repeated : List Bytes → Bytes → Bool
is_repeated names name = nat_le 2 (count_by (λ n. bytes_eq n name) names)

-- the first of the names that is no unit or stands more than once
pub record IsFirstOther (texts : List Entry) (names : List Bytes) (name : Bytes) : Type 0 where
  pub place : ℕ
  pub at : slice_get names place ≡ Some name
  pub bad : IsMissing texts UnitText name ⊎ (is_repeated names name ≡ true)
  pub before : (k : ℕ) (n : Bytes) → k < place → slice_get names k ≡ Some n → ((o : Outline) × IsOutlined texts UnitText n o) × (is_repeated names n ≡ false)

-- ---- 3: what is reached is an interface

pub record IsFirstMissing (texts : List Entry) (reached : List Bytes) (name : Bytes) : Type 0 where
  pub place : ℕ
  pub at : slice_get reached place ≡ Some name
  pub missing : IsMissing texts Interface name
  pub before : (k : ℕ) (n : Bytes) → k < place → slice_get reached k ≡ Some n → (o : Outline) × IsOutlined texts Interface n o

-- ---- 4 and 5: who exports an interface

-- the unit of this place exports the interface
pub record Exports (units : List Outline) (place : ℕ) (interface unit : Bytes) : Type 0 where
  pub outline : Outline
  pub at : slice_get units place ≡ Some outline
  pub named : unit ≡ outline.name
  pub names : List Bytes
  pub listed : Lists section.Exports outline names
  pub has : has_name names interface ≡ true

-- these two are the first units that export the interface
pub record ExportTwice (units : List Outline) (interface one two : Bytes) : Type 0 where
  pub first : ℕ
  pub second : ℕ
  pub order : first < second
  pub one_exports : Exports units first interface one
  pub two_exports : Exports units second interface two
  pub no_other : (k : ℕ) (unit : Bytes) → k < second → Exports units k interface unit → k ≡ first

pub record IsFirstTwofold (units : List Outline) (reached : List Bytes) (interface one two : Bytes) : Type 0 where
  pub place : ℕ
  pub at : slice_get reached place ≡ Some interface
  pub twice : ExportTwice units interface one two
  pub before : (k : ℕ) (n one two : Bytes) → k < place → slice_get reached k ≡ Some n → ExportTwice units n one two → ⊥

-- the interface leaves something to the unit that exports it, and no unit does
pub record IsOrphan (texts : List Entry) (units : List Outline) (interface : Bytes) : Type 0 where
  pub outline : Outline
  pub outlined : IsOutlined texts Interface interface outline
  pub place : ℕ
  pub one : Section
  pub at : slice_get outline.sections place ≡ Some one
  pub left : IsLeft one.kind
  pub read : IsRead one.kind one.text
  pub none : (k : ℕ) (unit : Bytes) → Exports units k interface unit → ⊥

pub record IsFirstOrphan (texts : List Entry) (units : List Outline) (reached : List Bytes) (interface : Bytes) : Type 0 where
  pub place : ℕ
  pub at : slice_get reached place ≡ Some interface
  pub orphan : IsOrphan texts units interface
  pub before : (k : ℕ) (n : Bytes) → k < place → slice_get reached k ≡ Some n → IsOrphan texts units n → ⊥

-- ---- 7: there is one main

-- the unit has this function main
pub record IsMainIn (o : Outline) (f : FnText) : Type 0 where
  pub one : Section
  pub found : section_called section.Fn (Some (codes "main")) o.sections ≡ Some one
  pub read : IsFnSection one.text f

-- the unit of this place has it
pub record HasMain (units : List Outline) (place : ℕ) (f : FnText) : Type 0 where
  pub outline : Outline
  pub at : slice_get units place ≡ Some outline
  pub main : IsMainIn outline f

-- the one main of the units is `int main ( void )`
pub record HasOneMain (units : List Outline) : Type 0 where
  pub place : ℕ
  pub function : FnText
  pub main : HasMain units place function
  pub returns : function.ret ≡ Int
  pub takes : function.params ≡ []
  pub no_other : (k : ℕ) (g : FnText) → HasMain units k g → k ≡ place

-- ---- all of them

-- A condition fails, by its number in a report, with the words that a report gives behind it.
pub data Fails (texts : List Entry) (link : Bytes) : ℕ → List Bytes → Type 0 where
  outside_grammar : {place : ℕ} → IsLinkFault texts link place → Fails texts link 1 (decimal (min place (2 ^ 32 - 1)) ∷ [])
  no_unit : {names : List Bytes} {name : Bytes} → IsLink texts link names → IsFirstOther texts names name → Fails texts link 2 (name ∷ [])
  no_interface : {shape : Shape} {name : Bytes} → HasShape texts link shape → IsFirstMissing texts shape.reached name → Fails texts link 3 (name ∷ [])
  exported_twice : {shape : Shape} {name one two : Bytes} → HasShape texts link shape → IsFirstTwofold shape.units shape.reached name one two → Fails texts link 4 (name ∷ (one ∷ (two ∷ [])))
  not_exported : {shape : Shape} {name : Bytes} → HasShape texts link shape → IsFirstOrphan texts shape.units shape.reached name → Fails texts link 5 (name ∷ [])
  declared_twice : {shape : Shape} {name : Bytes} → HasShape texts link shape → IsFirstTwice texts shape.interfaces shape.units name → Fails texts link 6 (name ∷ [])
  no_main : {shape : Shape} → HasShape texts link shape → (HasOneMain shape.units → ⊥) → Fails texts link 7 []

-- the first condition that fails, in the order of their numbers
pub record IsFirstFailure (texts : List Entry) (link : Bytes) (condition : ℕ) (words : List Bytes) : Type 0 where
  pub fails : Fails texts link condition words
  pub before : (k : ℕ) (others : List Bytes) → k < condition → Fails texts link k others → ⊥

-- as a report has it: the number, and each word behind a space
abbrev pub printed : ℕ → List Bytes → Bytes
printed condition words = decimal condition ++ flat_map (λ word. 32 ∷ word) words

-- none fails
abbrev pub IsLinked : List Entry → Bytes → Type 0
IsLinked texts link = (condition : ℕ) (words : List Bytes) → Fails texts link condition words → ⊥
