use Rattle.std.proofs.Common.{sym, ◌∙◌, subst}
use Rattle.vd_sized.specs.Seen.{IsMeant}
use Rattle.vd_sized.proofs.Settling.{goes_left, goes_by}
use Rattle.vd_sized.proofs.size.Sizes.pass.Goals as goal
use Rattle.vd_sized.proofs.size.Sizes.pass.Goals.{then-not-branch+in_ok-push, else-not-branch}

pub count-requires-clause-known : goal.count-requires-clause-known
count-requires-clause-known c = subst (IsMeant c.args.view.now) (sym c.known-item.is) (c.requires.waiting c.loop-known.known-index c.known-item.result c.loop-known-test.true)

pub loop-known-preserved : goal.loop-known-preserved
loop-known-preserved c =
    let meant = subst (IsMeant c.args.view.now) (sym c.known-item.is) (c.requires.waiting c.loop-known.known-index c.known-item.result c.loop-known-test.true) in
    elim c.if-not-branch.branch [
      | then-not-branch+in_ok-push w ↦ goes_left c.args.view.now c.args.self.now c.loop-known.self c.count.new.self c.args.waiting.now c.loop-known.left c.if-not-branch.left c.loop-known.known-index c.known-item.result c.in_ok-count.field-0
          c.loop-known-test.true c.known-item.is c.loop-known.invariant c.in_ok-count.ensures w.if-not-branch.true meant (w.left-is ∙ w.in_ok-push.ensures.ok)
      | else-not-branch w ↦ goes_by c.args.view.now c.args.self.now c.loop-known.self c.count.new.self c.args.waiting.now c.loop-known.left c.if-not-branch.left c.loop-known.known-index c.known-item.result c.in_ok-count.field-0
          c.loop-known-test.true c.known-item.is c.loop-known.invariant c.in_ok-count.ensures w.if-not-branch.false w.left-is
    ]
