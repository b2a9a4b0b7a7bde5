-- The form of texts that linking takes today: units and links, of which no text speaks of an interface.
use Rattle.std.specs.Prelude.{◌≡◌, ℕ, Bool, true, false, ◌&&◌, List, All}
use Rattle.std.specs.List.{list_all}
use Rattle.vd_outline.specs.declared.outline.Outline.{Outline}
use Rattle.vd_outline.specs.declared.outline.TextKind.{TextKind}
use Rattle.vd_outline.specs.declared.outline.TextKind.TheVariants.{Interface, Unit as UnitText, Link}
use Rattle.vd_outline.specs.declared.section.SectionKind.{SectionKind}
use Rattle.vd_outline.specs.declared.section.SectionKind.TheVariants as section
use Rattle.vd_outline.specs.Outline.{Outlines}

-- a text with its name and its version
abbrev pub Entry : Type 0
Entry = List ℕ × ℕ × List ℕ

-- units and links
abbrev pub is_plain_kind : TextKind → Bool
is_plain_kind Interface = false
is_plain_kind UnitText = true
is_plain_kind Link = true

-- all sections but those that speak of interfaces, and initial predicates
abbrev pub is_plain_section : SectionKind → Bool
is_plain_section section.Uses = false
is_plain_section section.Exports = false
is_plain_section section.Sub = false
is_plain_section section.Init = false
is_plain_section _ = true

abbrev pub is_plain : Outline → Bool
is_plain o = is_plain_kind o.kind && list_all (λ s. is_plain_section s.kind) o.sections

-- a text without an outline is plain: it declares nothing
abbrev pub IsPlainText : List ℕ → Type 0
IsPlainText text = (o : Outline) → Outlines text o → is_plain o ≡ true

-- the texts of a snapshot are plain
abbrev pub ArePlain : List Entry → Type 0
ArePlain texts = All (λ (t : Entry). IsPlainText t.2) texts
