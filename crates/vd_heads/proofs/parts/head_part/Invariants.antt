use Rattle.std.proofs.Common.{◌≡◌, ◌∷◌, ◌++◌, flat_map, take}
use Rattle.vd_outline.specs.Outline.{head_line}
use Rattle.vd_heads.specs.HeadPart.{head_sections}
use Rattle.vd_heads.proofs.parts.head_part.Given as goal

abbrev pub invariant-loop-section : goal.invariant-loop-section
invariant-loop-section l = l.text ≡ head_line l.fn.outline.kind l.fn.outline.name ++ 10 ∷ flat_map (λ s. s.text) (head_sections (take l.section-index l.fn.outline.sections))
