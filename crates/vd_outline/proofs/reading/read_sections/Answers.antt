use Rattle.std.proofs.Common.{◌≡◌, true, sym, ◌∙◌, ap, [], ◌∷◌, ◌++◌, Err, rules}
use Rattle.std.proofs.lemmas.Result.{err_from_is_err_and}
use Rattle.vd_outline.specs.declared.reading.SectionFault.TheVariants.{Bad}
use Rattle.vd_outline.specs.Seen.{has}
use Rattle.vd_outline.proofs.SectionsLaws.{none_left, some_left, sections_stop, section_more, all_sections}
use Rattle.vd_outline.proofs.reading.read_sections.Goals as goal
use Rattle.vd_outline.proofs.reading.read_sections.Goals.{else-eq-via-then-eq+else-is_empty, else-eq-via-else-eq}

pub returns-in_err-section-clause-bad : goal.returns-in_err-section-clause-bad
returns-in_err-section-clause-bad c = λ left is.
    let p = err_from_is_err_and c.from_residual.result c.from_residual.ensures.1 in
    let whole = sym p.1 ∙ is in
    let same : p.0 ≡ Bad left = cc in
    sections_stop c.args.kind c.args.bytes.now c.loop-rest.sections (has c.loop-rest.seen) c.loop-rest.rest.now left c.loop-rest.invariant
    (some_left c.loop-rest.rest.now (sym c.is_empty.ensures ∙ c.loop-rest-test.true))
    (c.in_err-section.ensures.bad left (ap Err (sym p.2 ∙ same)))

pub loop-rest-preserved : goal.loop-rest-preserved
loop-rest-preserved c =
    let s = c.in_ok-section.section in
    let pushed : c.push.new.self ≡ c.loop-rest.sections ++ s ∷ [] = search rules in
    section_more c.args.kind c.args.bytes.now c.loop-rest.sections c.push.new.self (has c.loop-rest.seen) (has c.read_section.new.seen) c.loop-rest.rest.now c.in_ok-section.after.now s
    c.loop-rest.invariant c.in_ok-section.ensures.section c.in_ok-section.ensures.bytes c.in_ok-section.ensures.is_new c.in_ok-section.ensures.seen pushed

pub returns-clause-sections : goal.returns-clause-sections
returns-clause-sections c =
    let last : c.loop-rest.rest.now ≡ [] = none_left c.loop-rest.rest.now (sym c.is_empty.ensures ∙ c.loop-rest-test.false) in
    all_sections c.args.kind c.args.bytes.now c.loop-rest.sections (has c.loop-rest.seen) c.loop-rest.rest.now c.loop-rest.invariant last
    (λ link none.
    elim c.else-eq.branch [
      | else-eq-via-then-eq+else-is_empty w ↦ let yes : w.is_empty-then-eq.result ≡ true = w.is_empty-then-eq.ensures.1 none in let other = w.if-is_empty.false in cc
      | else-eq-via-else-eq w ↦ let yes : c.eq.result ≡ true = rw link at c.eq.ensures in let other = w.if-eq.false in cc
    ])
