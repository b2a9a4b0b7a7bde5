use Rattle.std.proofs.Common.{◌+◌, sym, subst, rules}
use Rattle.std.proofs.lemmas.Bool.{iff_false}
use Rattle.vd_heads.specs.Least.{IsLeastOrNone}
use Rattle.vd_known.proofs.LackLaws.{InSection, stray_lacks, sections_lack}
use Rattle.vd_known.proofs.LeastLaws.{Items, items_none, items_next}
use Rattle.vd_known.proofs.completeness.first_lack.Goals as goal

pub returns-then-not-is_unit : goal.returns-then-not-is_unit
returns-then-not-is_unit c = λ lines bodies. λ at f. iff_false c.is_unit.ensures (search rules) f.0

pub returns-then-has_stray : goal.returns-then-has_stray
returns-then-has_stray c = λ lines bodies. stray_lacks lines c.args.view.now.parts.now c.args.view.now.own (c.is_unit.ensures.0 (search rules)) ((c.has_stray.ensures lines bodies).0 (search rules))

pub loop-section-init : goal.loop-section-init
loop-section-init c = λ lines bodies. items_none (InSection lines c.args.view.now.parts.now c.args.view.now.own) c.sections-section-items.result.now

pub loop-section-preserved : goal.loop-section-preserved
loop-section-preserved c = λ lines bodies.
    let hs = c.sections-section-items.result.now in
    subst (IsLeastOrNone (Items (InSection lines c.args.view.now.parts.now c.args.view.now.own) hs (c.loop-section.section-index + 1))) (sym c.least_of-first.ensures)
    (items_next (InSection lines c.args.view.now.parts.now c.args.view.now.own) hs c.loop-section.section-index c.section-item.result c.loop-section.first c.section_lack.result c.loop-section-test.true c.section-item.is
    (c.section_lack.ensures lines bodies) (c.loop-section.invariant lines bodies))

pub returns : goal.returns
returns c = λ lines bodies. sections_lack lines c.args.view.now.parts.now c.args.view.now.own c.sections-section-items.result.now c.loop-section.section-index c.loop-section.first (c.is_unit.ensures.0 (search rules))
    (iff_false (c.has_stray.ensures lines bodies) (search rules)) c.sections-section-items.ensures c.loop-section-test.false (c.loop-section.invariant lines bodies)
