use Rattle.std.proofs.Common.{◌+◌, sym, ◌∙◌, subst, rules}
use Rattle.vd_heads.specs.Least.{IsLeastOrNone}
use Rattle.vd_known.specs.Known.{IsUnknown}
use Rattle.vd_known.proofs.LeastLaws.{Among, least_none, least_next, least_kept, least_all}
use Rattle.vd_known.proofs.Unknown.{unknown_found, none_unknown}
use Rattle.vd_known.proofs.known.first_unknown.Goals as goal
use Rattle.vd_known.proofs.known.first_unknown.Goals.{then-not-branch, else-not-branch}

pub loop-section-init : goal.loop-section-init
loop-section-init c = least_none (IsUnknown c.args.view.now.parts.now c.args.view.now.own) c.sections-section-items.result.now

pub loop-section-preserved : goal.loop-section-preserved
loop-section-preserved c =
    let v = c.args.view.now in
    let hs = c.sections-section-items.result.now in
    let n = c.loop-section.section-index in
    let h = c.section-item.result in
    elim c.if-not-branch.branch [
      | then-not-branch w ↦ subst (IsLeastOrNone (Among (IsUnknown v.parts.now v.own) hs (n + 1))) (sym (w.first-is ∙ w.least-first.ensures))
          (least_next (IsUnknown v.parts.now v.own) hs n h c.loop-section.first c.loop-section-test.true c.section-item.is (unknown_found v h.content c.requires (sym c.in_ok-knows_content.ensures ∙ (search rules))) c.loop-section.invariant)
      | else-not-branch w ↦ subst (IsLeastOrNone (Among (IsUnknown v.parts.now v.own) hs (n + 1))) (sym w.first-is)
          (least_kept (IsUnknown v.parts.now v.own) hs n h c.loop-section.first c.loop-section-test.true c.section-item.is (none_unknown v h.content c.requires (sym c.in_ok-knows_content.ensures ∙ (search rules))) c.loop-section.invariant)
    ]

pub returns : goal.returns
returns c = least_all (IsUnknown c.args.view.now.parts.now c.args.view.now.own) c.args.view.now.parts.now c.args.view.now.own c.sections-section-items.result.now c.loop-section.section-index c.loop-section.first
    c.sections-section-items.ensures c.loop-section-test.false c.loop-section.invariant
