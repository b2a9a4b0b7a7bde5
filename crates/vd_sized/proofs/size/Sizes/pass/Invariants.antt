use Rattle.std.proofs.Common.{take}
use Rattle.vd_sized.specs.Sizes.{Passes}
use Rattle.vd_sized.proofs.size.Sizes.pass.Given as goal

abbrev pub invariant-loop-known : goal.invariant-loop-known
invariant-loop-known l = Passes l.view l.initial.self l.self (take l.known-index l.waiting) l.left
