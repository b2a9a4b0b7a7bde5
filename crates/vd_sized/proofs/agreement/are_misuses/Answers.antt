use Rattle.std.proofs.Common.{◌≡◌, true, false, refl, sym, ◌∙◌}
use Rattle.vd_heads.specs.Assertions.{item_labels}
use Rattle.vd_sized.specs.Agreement.{IsMisused}
use Rattle.vd_sized.proofs.Disagreeing.{flat_here, flat_on, flat_none}
use Rattle.vd_sized.proofs.agreement.are_misuses.Goals as goal

no : false ≡ true → ⊥
no e = cc

pub returns-then-is_misuse : goal.returns-then-is_misuse
returns-then-is_misuse c =
    (λ t. flat_here (IsMisused c.args.view.now.parts.now c.args.view.now.own) item_labels c.args.items.now c.loop-item.item-index c.item-item.result c.loop-item-test.true c.item-item.is (c.is_misuse.ensures.0 c.if-is_misuse.true), λ w. refl)

pub loop-item-preserved : goal.loop-item-preserved
loop-item-preserved c =
    flat_on (IsMisused c.args.view.now.parts.now c.args.view.now.own) item_labels c.args.items.now c.loop-item.item-index c.item-item.result c.loop-item-test.true c.item-item.is (λ a. no (sym c.if-is_misuse.false ∙ c.is_misuse.ensures.1 a)) c.loop-item.invariant

pub returns : goal.returns
returns c = (λ t. absurd (no t), λ a. absurd (flat_none (IsMisused c.args.view.now.parts.now c.args.view.now.own) item_labels c.args.items.now c.loop-item.item-index c.loop-item-test.false c.loop-item.invariant a))
