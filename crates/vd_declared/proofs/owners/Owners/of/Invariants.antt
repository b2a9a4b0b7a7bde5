use Rattle.std.proofs.Common.{take}
use Rattle.vd_declared.specs.Owners.{AreOwners}
use Rattle.vd_declared.proofs.owners.Owners.of.Given as goal

abbrev pub invariant-loop-d : goal.invariant-loop-d
invariant-loop-d l = AreOwners (take l.d-index l.declarations) l.owners
