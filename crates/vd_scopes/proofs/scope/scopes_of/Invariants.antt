use Rattle.vd_scopes.proofs.Adding.{IsSoFar}
use Rattle.vd_scopes.proofs.scope.scopes_of.Given as goal

abbrev pub invariant-loop-number : goal.invariant-loop-number
invariant-loop-number l = IsSoFar l.view.parts.now l.number l.initial.scopes l.scopes
