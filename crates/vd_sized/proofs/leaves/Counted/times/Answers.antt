use Rattle.std.proofs.Common.{◌≡◌, ◌*◌, ◌+◌, min, take, ap, ◌∙◌, arith}
use Rattle.std.specs.List.{repeat}
use Rattle.vd_base.specs.Layout.{most_cells}
use Rattle.vd_sized.proofs.Taking.{again, not_again}
use Rattle.vd_sized.proofs.Counting.{counts_times}
use Rattle.vd_sized.proofs.leaves.Counted.times.Goals as goal
use Rattle.vd_sized.proofs.leaves.Counted.times.Goals.{then-len-most+in_ok-put_all, else-len-most}

pub loop-preserved : goal.loop-preserved
loop-preserved c = elim c.if-len-most.branch [
  | then-len-most+in_ok-put_all w ↦ w.first-is ∙ again c.args.most c.loop.counter c.args.self.now.first c.loop.first w.put_all.new.first c.loop.invariant w.in_ok-put_all.ensures
  | else-len-most w ↦ w.first-is ∙ not_again c.args.most c.loop.counter c.args.self.now.first c.loop.first c.loop.invariant (omega arith)
]

pub returns : goal.returns
returns c ts h =
    let times : c.loop.counter ≡ min c.args.times c.args.most = omega arith in
    counts_times c.args.most c.args.times ts c.args.self.now _ h (c.min.ensures ∙ ap (λ n. min (n * c.args.self.now.count) (most_cells + 1)) c.from-2.ensures) (c.loop.invariant ∙ ap (λ n. take c.args.most (repeat n c.args.self.now.first)) times)
