use Rattle.std.proofs.Common.{◌≡◌, ◌∷◌, ◌++◌, [], ◌∙◌, ap, ap₂}
use Rattle.vd_machine.specs.Evaluation.{eval}
use Rattle.vd_machine.specs.Kept.{callers_of, frame_of}
use Rattle.vd_machine.specs.Thread.{Running, entry}
use Rattle.vd_machine.proofs.Calls.{spawn_is, function_is}
use Rattle.vd_machine.proofs.statement.spawn.Goals as goal

pub returns-in_ok-top-in-Some-clause-ok : goal.returns-in_ok-top-in-Some-clause-ok
returns-in_ok-top-in-Some-clause-ok c = λ pick.
    let a = c.args in
    let slices : eval c.as_slice.result.now c.as_slice-2.result.now a.e.now ≡ eval a.program.now.globals a.thread.now.top.temps.items a.e.now =
    cc (c.as_slice.ensures, c.as_slice-2.ensures.value) in
    let items : c.push.new.self.items ≡ c.in-Ok.value ∷ [] = c.in_ok-push-in-Some.ensures.items ∙ ap (λ xs. xs ++ c.in-Ok.value ∷ []) c.new-values.ensures.items in
    spawn_is a.program.now pick a.name.now a.e.now a.thread.now
    (record { top = record { level = c.pass.new.level; below = a.thread.now.top.below; temps = a.thread.now.top.temps }; waiting = a.thread.now.waiting })
    (record { top = c.in_ok-top-in-Some.top; waiting = c.new.result })
    a.memory.now c.index-fns-number.result c.in-Ok.value
    (c.in-Ok.ensures ∙ slices)
    (function_is a.program.now a.name.now c.as_slice-fns.result.now c.in-Some.number c.index-fns-number.result c.as_slice-fns.ensures c.in-Some.ensures.within c.index-fns-number.is c.in-Some.ensures.value)
    (ap₂ (λ fr ws. Running fr (callers_of ws)) (c.in_ok-top-in-Some.ensures.frame ∙ ap (λ vs. entry c.index-fns-number.result vs) items) c.new.ensures.items)
    (ap (λ l. Running (frame_of (record { level = l; below = a.thread.now.top.below; temps = a.thread.now.top.temps })) (callers_of a.thread.now.waiting.items)) c.pass.ensures)
