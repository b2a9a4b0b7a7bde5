use Rattle.std.proofs.Common.{◌+◌, sym, ◌∙◌, ap, subst}
use Rattle.vd_heads.specs.Least.{IsLeastOrNone}
use Rattle.vd_known.specs.Twice.{IsTwofoldAt}
use Rattle.vd_known.proofs.ClashLaws.{twofold_all}
use Rattle.vd_known.proofs.LeastLaws.{Items, items_none, items_read}
use Rattle.vd_known.proofs.twice.first_twofold.Goals as goal

pub loop-name-init : goal.loop-name-init
loop-name-init c = items_none (λ b at. IsTwofoldAt c.args.view.now.parts.now c.args.view.now.own c.args.space b.now at) c.shared-name-items.result.now

pub loop-name-preserved : goal.loop-name-preserved
loop-name-preserved c =
    let v = c.args.view.now in
    let names = c.shared-name-items.result.now in
    subst (IsLeastOrNone (Items (λ b at. IsTwofoldAt v.parts.now v.own c.args.space b.now at) names (c.loop-name.name-index + 1))) (sym c.least_of-first.ensures)
    (items_read (λ b at. IsTwofoldAt v.parts.now v.own c.args.space b.now at) names c.loop-name.name-index _ c.loop-name.first c.clash_place.result c.loop-name-test.true c.clash_place.ensures c.loop-name.invariant)

pub returns : goal.returns
returns c = twofold_all c.args.view.now c.args.space c.shared-name-items.result.now c.loop-name.name-index c.loop-name.first c.requires (c.shared-name-items.ensures ∙ ap (λ d. d.shared) c.in_space.ensures) c.loop-name-test.false c.loop-name.invariant
