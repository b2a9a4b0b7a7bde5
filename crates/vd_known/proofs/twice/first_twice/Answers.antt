use Rattle.std.proofs.Common.{sym, ◌∙◌, ap, subst}
use Rattle.vd_heads.specs.Least.{IsLeastOrNone}
use Rattle.vd_known.specs.Clash.{least_joined}
use Rattle.vd_known.specs.Twice.{FailsTwice}
use Rattle.vd_known.proofs.ClashLaws.{twice_all}
use Rattle.vd_known.proofs.twice.first_twice.Goals as goal

pub returns : goal.returns
returns c =
    let v = c.args.view.now in
    subst (IsLeastOrNone (FailsTwice v.parts.now v.own))
    (sym (c.least_of.ensures ∙ ap (λ o. least_joined o c.first_twofold-4.result) (c.least_of-functions.ensures ∙ ap (λ o. least_joined o c.first_twofold-3.result) (c.least_of-globals.ensures ∙ ap (λ o. least_joined o c.first_twofold-2.result) c.least_of-structs.ensures))))
    (twice_all v.parts.now v.own c.in_ok-repeated.repeated c.first_twofold.result c.first_twofold-2.result c.first_twofold-3.result c.first_twofold-4.result c.in_ok-repeated.ensures c.first_twofold.ensures c.first_twofold-2.ensures c.first_twofold-3.ensures c.first_twofold-4.ensures)
