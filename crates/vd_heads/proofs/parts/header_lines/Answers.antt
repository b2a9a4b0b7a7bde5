use Rattle.std.proofs.Common.{[], ◌∷◌, not, ◌∙◌, append_assoc, rules}
use Rattle.vd_outline.specs.Outline.{header_line}
use Rattle.vd_heads.specs.HeadPart.{is_head}
use Rattle.vd_heads.proofs.HeadLaws.{lines_kept, lines_left}
use Rattle.vd_heads.proofs.parts.header_lines.Goals as goal
use Rattle.vd_heads.proofs.parts.header_lines.Goals.{then-not-is_head+in_ok-put_header, else-not-is_head}

pub loop-section-preserved : goal.loop-section-preserved
loop-section-preserved c =
    elim c.if-not-is_head.branch [
      | then-not-is_head+in_ok-put_header w ↦ lines_kept (λ s. not (is_head s.kind)) (λ s. header_line s.kind s.name) c.as_slice-section-items.result.now c.args.outline.now.sections c.loop-section.section-index c.section-item.result
          c.loop-section.lines c.if-not-is_head.lines c.as_slice-section-items.ensures c.loop-section-test.true c.section-item.is (search rules) c.loop-section.invariant (w.lines-is ∙ (w.in_ok-put_header.ensures ∙ append_assoc c.loop-section.lines (header_line c.section-item.result.kind c.section-item.result.name) (10 ∷ [])))
      | else-not-is_head w ↦ lines_left (λ s. not (is_head s.kind)) (λ s. header_line s.kind s.name) c.as_slice-section-items.result.now c.args.outline.now.sections c.loop-section.section-index c.section-item.result
          c.loop-section.lines c.if-not-is_head.lines c.as_slice-section-items.ensures c.loop-section-test.true c.section-item.is (search rules) c.loop-section.invariant w.lines-is
    ]
