use Rattle.vd_known.specs.Completeness as complete
use Rattle.vd_known.specs.HeaderNames.{IsIn}
use Rattle.vd_known.proofs.NamedLaws.{NoneBefore}
use Rattle.vd_known.proofs.completeness.has_unasked.Given as goal

abbrev pub invariant-loop-name : goal.invariant-loop-name
invariant-loop-name l = NoneBefore (λ f. (IsIn l.fn.bodies.functions f × complete.IsSubsumed l.fn.view.parts.now l.fn.view.own f) → ⊥) l.name-items l.name-index
