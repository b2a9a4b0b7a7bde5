-- What the head part of a text says: each of its head sections, with the place of its header line.
use Rattle.std.specs.Prelude.{◌≡◌, ◌≢◌, ℕ, ◌+◌, ◌-◌, ◌^◌, min, List, [], ◌∷◌, length, map, None, Some, Result, Ok, Err}
use Rattle.vd_cgrammar.specs.declared.parts.Decl.{Decl}
use Rattle.vd_cgrammar.specs.declared.parts.Decl.TheVariants as decl
use Rattle.vd_cparse.specs.Section.{AnswersDecl}
use Rattle.vd_grammar.specs.declared.fault.ParseFault.{ParseFault}
use Rattle.vd_grammar.specs.declared.fault.ParseFault.TheVariants as fault
use Rattle.vd_outline.specs.declared.outline.Outline.{Outline}
use Rattle.vd_outline.specs.declared.outline.TextKind.{TextKind}
use Rattle.vd_outline.specs.declared.section.Section.{Section}
use Rattle.vd_outline.specs.declared.section.SectionKind.{SectionKind}
use Rattle.vd_outline.specs.declared.section.SectionKind.TheVariants as section
use Rattle.vd_outline.specs.Fault.{IsBad}
use Rattle.vd_heads.specs.HeadPart.{head_sections}
use Rattle.vd_outline.specs.Outline.{Bytes, HasHead, Outlines, head_line}
use Rattle.vd_heads.specs.declared.content.Content.{Content}
use Rattle.vd_heads.specs.declared.content.Content.TheVariants as content
use Rattle.vd_heads.specs.declared.content.HeadSection.{HeadSection}
use Rattle.vd_heads.specs.declared.content.Mention.{Mention}
use Rattle.vd_heads.specs.declared.content.Part.{Part}
use Rattle.vd_sparse.specs.declared.text.LogicText.{LogicText}
use Rattle.vd_sparse.specs.declared.text.LogicText.TheVariants as logic
use Rattle.vd_listing.specs.Listing.{IsListing}
use Rattle.vd_sparse.specs.Sections.{AnswersLogic}

-- a place is told in 32 bits
abbrev pub told : ℕ → ℕ
told place = min place (2 ^ 32 - 1)

-- ---- sections that begin at a place

-- names with their places in the head part
abbrev pub placed : ℕ → List Mention → List Mention
placed at names = map (λ m. record { name = m.name; place = told (at + m.place) }) names

-- a section that is at fault at a place in it
abbrev pub unread : ℕ → ℕ → Content
unread at place = content.Unread (told (at + place))

abbrev pub listing : (List Mention → Content) → ℕ → Result (List Mention) ℕ → Content
listing make at (Ok names) = make (placed at names)
listing make at (Err place) = unread at place

-- a fault of a reader; want of memory says nothing
abbrev pub fault_content : ℕ → ParseFault → Content
fault_content at (fault.Bad place) = unread at place
fault_content at (fault.Deep place) = unread at place
fault_content at fault.Memory = unread at 0

abbrev pub declaration : ℕ → Result Decl ParseFault → Content
declaration at (Ok (decl.Struct name fields)) = content.Struct name fields
declaration at (Ok (decl.Global field init)) = content.Global field init
declaration at (Err why) = fault_content at why

abbrev pub logic_content : ℕ → Result LogicText ParseFault → Content
logic_content at (Ok (logic.Abstract name sorts twice)) = content.Abstract name sorts twice
logic_content at (Ok (logic.Pred pred twice)) = content.Pred pred twice
logic_content at (Ok (logic.Spec spec twice)) = content.Spec spec twice
logic_content at (Ok _) = unread at 0
logic_content at (Err why) = fault_content at why

-- The section lists names.
pub record Lists (make : List Mention → Content) (text : Bytes) (at : ℕ) (c : Content) : Type 0 where
  pub answer : Result (List Mention) ℕ
  pub listed : IsListing text answer
  pub says : c ≡ listing make at answer

-- The section declares a struct or a global.
pub record DeclaresC (text : Bytes) (at : ℕ) (c : Content) : Type 0 where
  pub answer : Result Decl ParseFault
  pub read : AnswersDecl text answer
  pub certain : answer ≢ Err fault.Memory
  pub says : c ≡ declaration at answer

-- The section declares a predicate or specifies a function.
pub record DeclaresLogic (text : Bytes) (at : ℕ) (c : Content) : Type 0 where
  pub answer : Result LogicText ParseFault
  pub read : AnswersLogic text answer
  pub certain : answer ≢ Err fault.Memory
  pub says : c ≡ logic_content at answer

-- what a section says, by its kind
abbrev pub Says : SectionKind → Bytes → ℕ → Content → Type 0
Says section.Exports = Lists (λ names. content.Exports names)
Says section.Struct = DeclaresC
Says section.Global = DeclaresC
Says section.Abstract = DeclaresLogic
Says section.Pred = DeclaresLogic
Says section.Spec = DeclaresLogic
Says _ = Lists (λ names. content.Uses names)

-- ---- head parts

-- Sections, one behind another, the first of which begins at a place.
pub data AllSay : ℕ → List Section → List HeadSection → Type 0 where
  nothing : {at : ℕ} → AllSay at [] []
  section_then : {at : ℕ} {s : Section} {ss : List Section} {h : HeadSection} {hs : List HeadSection} → h.place ≡ told at → Says s.kind s.text at h.content → AllSay (at + length s.text) ss hs
      → AllSay at (s ∷ ss) (h ∷ hs)

-- a text that is no outline has no head, and one section that is not read
abbrev pub broken : ℕ → Part
broken place = record { head = None; sections = record { place = place; content = content.Unread place } ∷ [] }

-- What the head part of a text says; the place of a section is that of its header line in the head part. A text without an outline is at fault where its outline is, or at 0 without a head line.
pub data IsPart (text : Bytes) (p : Part) : Type 0 where
  outlined : (o : Outline) → Outlines text o → p.head ≡ Some (o.kind, o.name) → AllSay (length (head_line o.kind o.name) + 1) (head_sections o.sections) p.sections → IsPart text p
  bad : (place : ℕ) → IsBad text place → p ≡ broken place → IsPart text p
  headless : ((kind : TextKind) (name : Bytes) → HasHead text kind name → ⊥) → p ≡ broken 0 → IsPart text p

-- What the head parts of texts say, one by one.
pub data AreParts : List Bytes → List Part → Type 0 where
  no_part : AreParts [] []
  one_more : {text : Bytes} {texts : List Bytes} {p : Part} {ps : List Part} → IsPart text p → AreParts texts ps → AreParts (text ∷ texts) (p ∷ ps)
