use Rattle.vd_heads.proofs.Closing.{Found}
use Rattle.vd_heads.proofs.closure.closure_of.Given as goal

abbrev pub invariant-loop-at : goal.invariant-loop-at
invariant-loop-at l = Found l.parts l.from l.at l.set
