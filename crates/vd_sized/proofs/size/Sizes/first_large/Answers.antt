use Rattle.std.proofs.Common.{◌≡◌, true, false, sym, ◌∙◌}
use Rattle.vd_sized.specs.Cells.{IsLarge}
use Rattle.vd_sized.proofs.Firsts.{add, skip, first_of_all}
use Rattle.vd_sized.proofs.size.Sizes.first_large.Goals as goal
use Rattle.vd_sized.proofs.size.Sizes.first_large.Goals.{then-branch, else-branch}

no : false ≡ true → ⊥
no e = cc

pub loop-section-preserved : goal.loop-section-preserved
loop-section-preserved c = elim c.if-branch.branch [
  | then-branch w ↦ add (IsLarge c.args.view.now.parts.now c.args.view.now.own) c.sections-section-items.result.now c.loop-section.section-index c.section-item.result c.loop-section-test.true c.section-item.is
      c.loop-section.first c.if-branch.first (c.in_ok-is_large.ensures.0 w.if-branch.true) (w.first-is ∙ w.least-first.ensures) c.loop-section.invariant
  | else-branch w ↦ skip (IsLarge c.args.view.now.parts.now c.args.view.now.own) c.sections-section-items.result.now c.loop-section.section-index c.section-item.result c.loop-section-test.true c.section-item.is
      c.loop-section.first c.if-branch.first (λ p. no (sym w.if-branch.false ∙ c.in_ok-is_large.ensures.1 p)) w.first-is c.loop-section.invariant
]

pub returns : goal.returns
returns c = first_of_all (IsLarge c.args.view.now.parts.now c.args.view.now.own) c.args.view.now.parts.now c.args.view.now.own c.sections-section-items.result.now c.loop-section.section-index c.loop-section.first c.sections-section-items.ensures c.loop-section-test.false c.loop-section.invariant
