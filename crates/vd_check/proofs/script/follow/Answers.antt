use Rattle.std.proofs.Common.{refl}
use Rattle.vd_store.specs.declared.work.Verdict.TheVariants.{Accepted, Refused}
use Rattle.vd_check.proofs.Scripts.{verdict_behind, good_at_end, extra_behind, refused_here, lacks_step}
use Rattle.vd_check.proofs.script.follow.Goals as goal

pub loop-step-preserved : goal.loop-step-preserved
loop-step-preserved c = λ v h. c.loop-step.invariant v (verdict_behind c.args.post.now c.loop-step.last (record { locals = c.loop-step.locals; left = c.loop-step.left.now }) c.in-Some.step.now c.in-Some.others.now c.loop-step.steps.now c.in-Some.ensures.cases.0
    (record { locals = c.apply.new.locals; left = c.in-Goes.rest.now }) c.in-Goes.ensures v h)

pub returns-in-None : goal.returns-in-None
returns-in-None c = c.loop-step.invariant Accepted (good_at_end c.args.post.now c.loop-step.last (record { locals = c.loop-step.locals; left = c.loop-step.left.now }) c.in-Some.step.now c.in-Some.others.now c.loop-step.steps.now c.in-Some.ensures.cases.0
    c.in-Ends.ensures c.in-None.ensures.value)

pub returns-in-Some-first : goal.returns-in-Some-first
returns-in-Some-first c = c.loop-step.invariant (Refused c.in-Some-first.next.now.number 0 11) (extra_behind c.args.post.now c.loop-step.last (record { locals = c.loop-step.locals; left = c.loop-step.left.now }) c.in-Some.step.now c.in-Some.others.now c.loop-step.steps.now c.in-Some.ensures.cases.0
    c.in-Some-first.next.now c.in-Ends.ensures c.in-Some-first.ensures.value)

pub returns-in-Refused : goal.returns-in-Refused
returns-in-Refused c = c.loop-step.invariant (Refused c.in-Some.step.now.number c.rule_of.result c.in-Refused.condition) (refused_here c.args.post.now c.loop-step.last (record { locals = c.loop-step.locals; left = c.loop-step.left.now }) c.in-Some.step.now c.in-Some.others.now c.loop-step.steps.now c.in-Some.ensures.cases.0
    c.in-Some.step.now.number c.rule_of.result c.in-Refused.condition c.in-Refused.ensures refl c.rule_of.ensures)

pub returns : goal.returns
returns c = c.loop-step.invariant (Refused c.saturating_add.result 0 10) (lacks_step c.args.post.now c.loop-step.last (record { locals = c.loop-step.locals; left = c.loop-step.left.now }) c.loop-step.steps.now c.saturating_add.result c.in_default.ensures.cases c.saturating_add.ensures)
