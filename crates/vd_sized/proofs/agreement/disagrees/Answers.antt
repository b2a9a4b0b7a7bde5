use Rattle.std.proofs.Common.{sym, ◌∙◌, subst, IsTrue}
use Rattle.std.specs.Prelude.{◌↔◌}
use Rattle.std.specs.List.{Any, flat_map}
use Rattle.vd_heads.specs.Assertions.{item_labels}
use Rattle.vd_sized.specs.Agreement.{IsMisused}
use Rattle.vd_sized.proofs.Judging.{by_terms, by_labels}
use Rattle.vd_sized.proofs.agreement.disagrees.Goals as goal

pub returns-then-not-assertion_agrees : goal.returns-then-not-assertion_agrees
returns-then-not-assertion_agrees c = by_terms c.args.view.now.parts.now c.args.view.now.own c.args.a.now (sym c.assertion_agrees.ensures ∙ c.if-not-assertion_agrees.true)

pub returns : goal.returns
returns c =
    by_labels c.args.view.now.parts.now c.args.view.now.own c.args.a.now c.are_misuses.result (sym c.assertion_agrees.ensures ∙ c.if-not-assertion_agrees.false)
    (subst (λ items. IsTrue c.are_misuses.result ↔ Any (IsMisused c.args.view.now.parts.now c.args.view.now.own) (flat_map item_labels items)) c.as_slice.ensures c.are_misuses.ensures)
