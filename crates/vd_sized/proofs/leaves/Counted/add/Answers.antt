use Rattle.vd_sized.proofs.Counting.{counts_add}
use Rattle.vd_sized.proofs.leaves.Counted.add.Goals as goal

pub returns : goal.returns
returns c ts us h k = counts_add c.args.most ts us c.args.self.now c.args.more.now _ h k c.min-self.ensures (c.in_ok-put_all.ensures)
