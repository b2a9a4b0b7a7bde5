use Rattle.std.proofs.Common.{refl, rules}
use Rattle.std.proofs.lemmas.Bool.{iff_false}
use Rattle.vd_known.proofs.LackLaws.{none_asked, none_asks_next, none_asks, section_asks}
use Rattle.vd_known.proofs.completeness.one_asks.Goals as goal

pub loop-section-init : goal.loop-section-init
loop-section-init c = λ lines bodies. none_asked lines c.args.view.now.parts.now c.args.view.now.own c.args.sections.now

pub loop-section-preserved : goal.loop-section-preserved
loop-section-preserved c = λ lines bodies. none_asks_next lines c.args.view.now.parts.now c.args.view.now.own c.args.sections.now c.loop-section.section-index c.section-item.result c.loop-section-test.true c.section-item.is (c.loop-section.invariant lines bodies)
    (iff_false (c.asks_for.ensures lines bodies) (search rules))

pub returns-then-asks_for : goal.returns-then-asks_for
returns-then-asks_for c = λ lines bodies.
    (λ _. section_asks lines c.args.view.now.parts.now c.args.view.now.own c.args.sections.now c.loop-section.section-index c.section-item.result c.loop-section-test.true c.section-item.is ((c.asks_for.ensures lines bodies).0 (search rules)), λ _. refl)

pub returns : goal.returns
returns c = λ lines bodies.
    (λ e. absurd (cc), λ a. absurd (none_asks lines c.args.view.now.parts.now c.args.view.now.own c.args.sections.now c.loop-section.section-index c.loop-section-test.false (c.loop-section.invariant lines bodies) a))
