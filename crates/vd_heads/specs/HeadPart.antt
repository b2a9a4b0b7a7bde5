-- The part of a text that other texts see, and what is told of the rest.
use Rattle.std.specs.Prelude.{Bool, true, false, not, List, ◌∷◌, ◌++◌, map, flat_map}
use Rattle.std.specs.List.{filter}
use Rattle.vd_outline.specs.declared.outline.Outline.{Outline}
use Rattle.vd_outline.specs.declared.section.Section.{Section}
use Rattle.vd_outline.specs.declared.section.SectionKind.{SectionKind}
use Rattle.vd_outline.specs.declared.section.SectionKind.TheVariants as section
use Rattle.vd_outline.specs.Lines.{joined}
use Rattle.vd_outline.specs.Outline.{Bytes, head_line, header_line}

-- whether a section of this kind declares: all but functions and proofs do
abbrev pub is_head : SectionKind → Bool
is_head section.Fn = false
is_head section.Script = false
is_head section.Sub = false
is_head section.Init = false
is_head _ = true

-- the head sections, in their order
abbrev pub head_sections : List Section → List Section
head_sections sections = filter (λ s. is_head s.kind) sections

-- the head part of a text: its head line and its head sections, in their order
abbrev pub head_part : Outline → Bytes
head_part o = head_line o.kind o.name ++ 10 ∷ flat_map (λ s. s.text) (head_sections o.sections)

-- the header lines of its other sections, in their order
abbrev pub header_lines : Outline → Bytes
header_lines o = joined (map (λ s. header_line s.kind s.name) (filter (λ s. not (is_head s.kind)) o.sections))
