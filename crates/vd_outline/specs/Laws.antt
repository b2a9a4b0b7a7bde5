-- What follows of outlines from their definition.
use Rattle.std.specs.Prelude.{◌≡◌, ℕ, Option}
use Rattle.vd_outline.specs.declared.outline.Outline.{Outline}
use Rattle.vd_outline.specs.declared.outline.TextKind.{TextKind}
use Rattle.vd_outline.specs.declared.section.SectionKind.{SectionKind}
use Rattle.vd_outline.specs.Fault.{IsBadAt}
use Rattle.vd_outline.specs.Outline.{Bytes, header_line, HasHead, Outlines}

-- a head line tells one kind and one name
abbrev pub OneHead : Type 0
OneHead = (text : Bytes) (kind other : TextKind) (name other_name : Bytes) → HasHead text kind name → HasHead text other other_name → (kind ≡ other) × (name ≡ other_name)

-- a header line tells one kind and one name, or none
abbrev pub OneHeader : Type 0
OneHeader = (kind other : SectionKind) (name other_name : Option Bytes) → header_line kind name ≡ header_line other other_name → (kind ≡ other) × (name ≡ other_name)

-- a text has one outline at most
abbrev pub OneOutline : Type 0
OneOutline = (text : Bytes) (o other : Outline) → Outlines text o → Outlines text other → o ≡ other

-- a text is bad at one place at most
abbrev pub OneFault : Type 0
OneFault = (text : Bytes) (place other : ℕ) → IsBadAt text place → IsBadAt text other → place ≡ other

-- a text that is bad at a place has a head line
abbrev pub FaultHasHead : Type 0
FaultHasHead = (text : Bytes) (place : ℕ) → IsBadAt text place → (kind : TextKind) × (name : Bytes) × HasHead text kind name

-- a text that is bad at a place has no outline
abbrev pub FaultHasNoOutline : Type 0
FaultHasNoOutline = (text : Bytes) (place : ℕ) (o : Outline) → IsBadAt text place → Outlines text o → ⊥
