use Rattle.std.proofs.Common.{◌≡◌, not, map, take}
use Rattle.std.specs.List.{filter}
use Rattle.vd_outline.specs.Lines.{joined}
use Rattle.vd_outline.specs.Outline.{header_line}
use Rattle.vd_heads.specs.HeadPart.{is_head}
use Rattle.vd_heads.proofs.parts.header_lines.Given as goal

abbrev pub invariant-loop-section : goal.invariant-loop-section
invariant-loop-section l = l.lines ≡ joined (map (λ s. header_line s.kind s.name) (filter (λ s. not (is_head s.kind)) (take l.section-index l.fn.outline.sections)))
