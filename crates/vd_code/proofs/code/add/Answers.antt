use Rattle.std.proofs.Common.{refl, arith}
use Rattle.vd_code.proofs.Coding.{fn_added, fn_none, global_added, global_none, other_added}
use Rattle.vd_code.proofs.code.add.Goals as goal

pub returns-in_ok-push-in-Some : goal.returns-in_ok-push-in-Some
returns-in_ok-push-in-Some c = fn_added c.args.index.now.scope.now c.args.section.now c.in-Some.function c.args.code.now _ c.in-Fn.is (rw c.in-Some.is at c.in_ok-function-in-Fn.ensures) c.in_ok-push-in-Some.ensures.ok refl

pub returns-in-None : goal.returns-in-None
returns-in-None c = fn_none c.args.index.now.scope.now c.args.section.now c.in-Fn.is (rw c.in-None.is at c.in_ok-function-in-Fn.ensures)

pub returns-in_ok-push-in-Some-2 : goal.returns-in_ok-push-in-Some-2
returns-in_ok-push-in-Some-2 c = global_added c.args.index.now.scope.now c.args.section.now c.in-Some-2.global c.args.code.now _ c.in-Global.is (rw c.in-Some-2.is at c.in_ok-global-in-Global.ensures) refl c.in_ok-push-in-Some-2.ensures.ok

pub returns-in-None-2 : goal.returns-in-None-2
returns-in-None-2 c = global_none c.args.index.now.scope.now c.args.section.now c.in-Global.is (rw c.in-None-2.is at c.in_ok-global-in-Global.ensures)

pub returns-in-Uses : goal.returns-in-Uses
returns-in-Uses c = other_added c.args.index.now.scope.now c.args.section.now c.args.code.now (λ e. grind (arith, e, c.in-Uses.is)) (λ e. grind (arith, e, c.in-Uses.is))
