use Rattle.std.proofs.Common.{◌≡◌, take}
use Rattle.std.specs.List.{repeat}
use Rattle.vd_sized.proofs.leaves.Counted.times.Given as goal

abbrev pub invariant-loop : goal.invariant-loop
invariant-loop l = l.first ≡ take l.most (repeat l.counter l.self.first)
