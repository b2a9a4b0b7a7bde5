use Rattle.vd_declared.proofs.Owning.{NoneBelow}
use Rattle.vd_declared.proofs.declared.first_shared.Given as goal

abbrev pub invariant-loop-d : goal.invariant-loop-d
invariant-loop-d l = NoneBelow l.declarations l.d-index
