use Rattle.std.proofs.Common.{length}
use Rattle.vd_check.specs.Script.{HasVerdictFrom}
use Rattle.vd_store.specs.declared.work.Verdict.{Verdict}
use Rattle.vd_check.proofs.script.follow.Given as goal

-- a verdict from the state reached is one from the first state
abbrev pub invariant-loop-step : goal.invariant-loop-step
invariant-loop-step l = (v : Verdict) → HasVerdictFrom l.post l.last (record { locals = l.locals; left = l.left }) l.steps v
    → HasVerdictFrom l.initial.post 0 (record { locals = l.initial.locals; left = l.initial.body }) l.initial.script v

abbrev pub decreases-loop-step : goal.decreases-loop-step
decreases-loop-step l = length l.steps
