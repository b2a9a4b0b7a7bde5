use Rattle.vd_code.proofs.SectionCode.{is_function, no_function, unread_function}
use Rattle.vd_code.proofs.code.typed.Goals as goal

pub returns-in_default : goal.returns-in_default
returns-in_default c = unread_function c.args.index.now.scope.now c.args.section.now (rw c.in_default.is at c.in_ok-function.ensures)

pub returns-in-Ok : goal.returns-in-Ok
returns-in-Ok c = is_function c.args.index.now.scope.now c.args.section.now c.typing_laws.ensures.once c.in-Some.function c.in-Ok.typed (rw c.in-Some.is at c.in_ok-function.ensures) c.in-Ok.ensures

pub returns : goal.returns
returns c = no_function c.args.index.now.scope.now c.args.section.now c.typing_laws.ensures.faultless c.in-Some.function c.in-Err.fault (rw c.in-Some.is at c.in_ok-function.ensures) c.in_ok-faulty-in-Err.ensures c.in-Err.ensures
