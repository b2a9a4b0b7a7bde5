use Rattle.std.proofs.Common.{◌≡◌, ◌+◌, true, sym, ◌∙◌, subst, rules}
use Rattle.std.proofs.lemmas.Bool.{both_ways}
use Rattle.vd_heads.specs.Least.{IsLeastOrNone}
use Rattle.vd_known.specs.Twice.{repeats}
use Rattle.vd_known.proofs.LeastLaws.{Among, least_none, least_next, least_kept, least_all}
use Rattle.vd_known.proofs.twice.first_repeated.Goals as goal
use Rattle.vd_known.proofs.twice.first_repeated.Goals.{then-branch, else-branch}

pub loop-section-init : goal.loop-section-init
loop-section-init c = least_none (λ x. repeats x ≡ true) c.sections-section-items.result.now

pub loop-section-preserved : goal.loop-section-preserved
loop-section-preserved c =
    let hs = c.sections-section-items.result.now in
    let n = c.loop-section.section-index in
    let h = c.section-item.result in
    elim c.if-branch.branch [
      | then-branch w ↦ subst (IsLeastOrNone (Among (λ x. repeats x ≡ true) hs (n + 1))) (sym (w.first-is ∙ w.least-first.ensures))
          (least_next (λ x. repeats x ≡ true) hs n h c.loop-section.first c.loop-section-test.true c.section-item.is (sym c.in_ok-repeats.ensures ∙ (search rules)) c.loop-section.invariant)
      | else-branch w ↦ subst (IsLeastOrNone (Among (λ x. repeats x ≡ true) hs (n + 1))) (sym w.first-is)
          (least_kept (λ x. repeats x ≡ true) hs n h c.loop-section.first c.loop-section-test.true c.section-item.is (both_ways (repeats h.content) (sym c.in_ok-repeats.ensures ∙ (search rules))) c.loop-section.invariant)
    ]

pub returns : goal.returns
returns c = least_all (λ x. repeats x ≡ true) c.args.view.now.parts.now c.args.view.now.own c.sections-section-items.result.now c.loop-section.section-index c.loop-section.first
    c.sections-section-items.ensures c.loop-section-test.false c.loop-section.invariant
