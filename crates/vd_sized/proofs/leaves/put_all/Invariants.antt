use Rattle.std.proofs.Common.{◌≡◌, ◌++◌, take}
use Rattle.vd_sized.proofs.leaves.put_all.Given as goal

abbrev pub invariant-loop-t : goal.invariant-loop-t
invariant-loop-t l = l.first ≡ take l.most (l.initial.first ++ take l.t-index l.t-items)
