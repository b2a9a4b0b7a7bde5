use Rattle.std.proofs.Common.{take}
use Rattle.vd_scopes.specs.Structs.{Passes}
use Rattle.vd_scopes.proofs.structs.pass.Given as goal

abbrev pub invariant-loop-known : goal.invariant-loop-known
invariant-loop-known l = Passes l.fn.structs l.structs (take l.known-index l.waiting) l.left
