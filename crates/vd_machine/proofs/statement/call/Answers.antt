use Rattle.std.proofs.Common.{◌≡◌, sym, ◌∙◌, ap}
use Rattle.vd_machine.specs.Evaluation.{eval_all}
use Rattle.vd_machine.specs.Results.{result_map}
use Rattle.vd_machine.proofs.Calls.{call_is, function_is}
use Rattle.vd_machine.proofs.statement.call.Goals as goal

pub returns-in_ok-descend-in-Some-clause-ok : goal.returns-in_ok-descend-in-Some-clause-ok
returns-in_ok-descend-in-Some-clause-ok c = λ pick.
    let a = c.args in
    let slices : eval_all c.as_slice.result.now c.as_slice-2.result.now c.as_slice-3.result.now ≡ eval_all a.program.now.globals a.thread.now.top.temps.items a.arguments.now =
    cc (c.as_slice.ensures, c.as_slice-2.ensures.value, c.as_slice-3.ensures) in
    call_is a.program.now pick a.target a.name.now a.arguments.now a.thread.now c.descend.new.thread a.memory.now c.index-fns-number.result c.in-Ok.values.items
    (sym (ap (λ r. result_map (λ v. v.items) r) c.in-Ok.is) ∙ c.in_ok-values.ensures ∙ slices)
    (function_is a.program.now a.name.now c.as_slice-fns.result.now c.in-Some.number c.index-fns-number.result c.as_slice-fns.ensures c.in-Some.ensures.within c.index-fns-number.is c.in-Some.ensures.value)
    (c.in_ok-descend-in-Some.ensures.top ∙ c.in_ok-frame-in-Some.ensures.frame)
    c.in_ok-descend-in-Some.ensures.waiting
