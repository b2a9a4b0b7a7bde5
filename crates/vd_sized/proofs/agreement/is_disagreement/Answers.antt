use Rattle.std.proofs.Common.{true, sym, subst, IsTrue}
use Rattle.std.specs.Prelude.{◌↔◌}
use Rattle.vd_sized.specs.Agreement.{IsDisagreement}
use Rattle.vd_sized.proofs.Judging.{spec_pre, spec_post}
use Rattle.vd_sized.proofs.agreement.is_disagreement.Goals as goal

pub returns-then-disagrees : goal.returns-then-disagrees
returns-then-disagrees c =
    subst (λ x. IsTrue true ↔ IsDisagreement c.args.view.now.parts.now c.args.view.now.own x) (sym c.in-Spec.is)
    (spec_pre c.args.view.now.parts.now c.args.view.now.own c.in-Spec.spec _ (c.disagrees.ensures.0 c.if-disagrees.true))

pub returns-then-disagrees-2 : goal.returns-then-disagrees-2
returns-then-disagrees-2 c =
    subst (λ x. IsTrue true ↔ IsDisagreement c.args.view.now.parts.now c.args.view.now.own x) (sym c.in-Spec.is)
    (spec_post c.args.view.now.parts.now c.args.view.now.own c.in-Spec.spec _ (c.disagrees-in-Spec.ensures.0 c.if-disagrees-2.true))
