-- The kinds that words name.
use Rattle.std.specs.Prelude.{List, [], ◌∷◌, Option}
use Rattle.std.specs.List.{find}
use Rattle.std.specs.Str.{bytes_eq}
use Rattle.vd_outline.specs.declared.outline.TextKind.{TextKind}
use Rattle.vd_outline.specs.declared.outline.TextKind.TheVariants.{Interface, Unit as UnitText, Link}
use Rattle.vd_outline.specs.declared.section.SectionKind.{SectionKind}
use Rattle.vd_outline.specs.declared.section.SectionKind.TheVariants as section
use Rattle.vd_outline.specs.Outline.{Bytes, kind_word, section_word}

-- each kind of text
abbrev pub text_kinds : List TextKind
text_kinds = Interface ∷ UnitText ∷ Link ∷ []

-- the kind of text that a word names
abbrev pub text_kind_from : Bytes → Option TextKind
text_kind_from word = find (λ kind. bytes_eq word (kind_word kind)) text_kinds

-- each kind of section
abbrev pub section_kinds : List SectionKind
section_kinds = section.Uses ∷ section.Exports ∷ section.Units ∷ section.Struct ∷ section.Global ∷ section.Abstract
    ∷ section.Pred ∷ section.Spec ∷ section.Fn ∷ section.Script ∷ section.Sub ∷ section.Init ∷ []

-- the kind of section that a word names
abbrev pub section_kind_from : Bytes → Option SectionKind
section_kind_from word = find (λ kind. bytes_eq word (section_word kind)) section_kinds
