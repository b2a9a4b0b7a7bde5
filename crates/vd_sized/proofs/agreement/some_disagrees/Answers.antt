use Rattle.std.proofs.Common.{◌≡◌, true, false, refl, sym, ◌∙◌}
use Rattle.vd_sized.specs.Agreement.{Disagrees}
use Rattle.vd_sized.proofs.Disagreeing.{any_at, none_more, none_all}
use Rattle.vd_sized.proofs.agreement.some_disagrees.Goals as goal

no : false ≡ true → ⊥
no e = cc

pub returns-then-disagrees : goal.returns-then-disagrees
returns-then-disagrees c =
    (λ t. any_at (Disagrees c.args.view.now.parts.now c.args.view.now.own) c.args.assertions.now c.loop-a.a-index c.a-item.result c.loop-a-test.true c.a-item.is (c.disagrees.ensures.0 c.if-disagrees.true), λ w. refl)

pub loop-a-preserved : goal.loop-a-preserved
loop-a-preserved c =
    none_more (Disagrees c.args.view.now.parts.now c.args.view.now.own) c.args.assertions.now c.loop-a.a-index c.a-item.result c.loop-a-test.true c.a-item.is (λ d. no (sym c.if-disagrees.false ∙ c.disagrees.ensures.1 d)) c.loop-a.invariant

pub returns : goal.returns
returns c = (λ t. absurd (no t), λ w. absurd (none_all (Disagrees c.args.view.now.parts.now c.args.view.now.own) c.args.assertions.now c.loop-a.a-index c.loop-a-test.false c.loop-a.invariant w))
