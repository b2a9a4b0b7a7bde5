use Rattle.std.proofs.Common.{◌+◌, sym, ◌∙◌, subst}
use Rattle.vd_heads.specs.Least.{IsLeastOrNone}
use Rattle.vd_scopes.proofs.FirstUnread.{Among, none_yet, kept, added, all_read}
use Rattle.vd_scopes.proofs.verdict.first_unread.Goals as goal
use Rattle.vd_scopes.proofs.verdict.first_unread.Goals.{in-Unread, in_default}

pub loop-section-init : goal.loop-section-init
loop-section-init c = none_yet c.sections-section-items.result.now

pub loop-section-preserved : goal.loop-section-preserved
loop-section-preserved c =
    let hs = c.sections-section-items.result.now in
    let n = c.loop-section.section-index in
    let h = c.section-item.result in
    elim c.match-section.branch [
      | in-Unread w ↦ subst (IsLeastOrNone (Among hs (n + 1))) (sym (w.first-is ∙ w.least-first.ensures))
          (added hs n h c.loop-section-test.true c.section-item.is c.loop-section.first w.in-Unread.place w.in-Unread.is c.loop-section.invariant)
      | in_default w ↦ subst (IsLeastOrNone (Among hs (n + 1))) (sym w.first-is)
          (kept hs n h c.loop-section-test.true c.section-item.is c.loop-section.first w.in_default.not-Unread c.loop-section.invariant)
    ]

pub returns : goal.returns
returns c = all_read c.args.view.now.parts.now c.args.view.now.own c.sections-section-items.result.now c.loop-section.section-index c.loop-section.first c.sections-section-items.ensures c.loop-section-test.false c.loop-section.invariant
