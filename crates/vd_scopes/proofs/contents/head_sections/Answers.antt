use Rattle.std.proofs.Common.{◌≡◌, ◌<◌, ◌+◌, ◌-◌, ◌^◌, ◌∙◌, min, [], List, length, ap, sym, subst, arith}
use Rattle.vd_heads.specs.declared.content.HeadSection.{HeadSection}
use Rattle.vd_scopes.proofs.Placing.{AreRead, none_read, one_read, one_left, section_among}
use Rattle.vd_scopes.proofs.contents.head_sections.Goals as goal
use Rattle.vd_scopes.proofs.contents.head_sections.Goals.{then-is_head+in_ok-content+in_ok-push, else-is_head}

pub loop-section-init : goal.loop-section-init
loop-section-init c = λ kind all.
    let P : List HeadSection → Type 0 = λ found. AreRead c.args.begin c.args.begin [] found in
    subst P (sym c.new-found.ensures) (none_read c.args.begin)

pub loop-section-preserved : goal.loop-section-preserved
loop-section-preserved c = λ kind all.
    let x = c.section-item.result in
    let n = c.loop-section.section-index in
    let xs = c.args.sections.now in
    let at = c.loop-section.at in
    let below : n < length xs = omega arith in
    let before = c.loop-section.invariant kind all in
    let is = section_among kind xs n x below c.section-item.is all in
    elim c.if-is_head.branch [
      | then-is_head+in_ok-content+in_ok-push w ↦
          (let h : HeadSection = record { place = w.place_of-place.result; content = w.in_ok-content.content } in
          one_read c.args.begin at c.if-is_head.at xs n x h c.loop-section.found c.if-is_head.found below c.section-item.is (sym c.is_head.ensures ∙ w.if-is_head.true) before w.place_of-place.ensures
          (w.in_ok-content.ensures kind is) (w.at-is ∙ (w.saturating_add-at.ensures ∙ ap (λ k. min (at + k) (2 ^ 64 - 1)) w.len.ensures)) (w.found-is ∙ w.in_ok-push.ensures.ok))
      | else-is_head w ↦
          one_left c.args.begin at c.if-is_head.at xs n x c.loop-section.found c.if-is_head.found below c.section-item.is (sym c.is_head.ensures ∙ w.if-is_head.false) w.at-is w.found-is before
    ]
