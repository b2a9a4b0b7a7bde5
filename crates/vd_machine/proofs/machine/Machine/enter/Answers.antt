use Rattle.std.proofs.Common.{ℕ, sym, ◌∙◌, subst}
use Rattle.vd_machine.specs.Turns.{system_of}
use Rattle.vd_machine.specs.Watching.{touch_in, Meets, Enters}
use Rattle.vd_machine.proofs.Watched.{entered, touch_is}
use Rattle.vd_machine.proofs.machine.Machine.enter.Goals as goal

pub returns : goal.returns
returns c =
    let i = c.self.inside in
    let v = c.args.watch in
    let n = c.args.thread in
    let t = c.touch_of-touched.result in
    subst (λ w. Enters w.program.globals w.system v n c.in_ok-with.field-0) c.self.view_is
    (entered i.program.now.globals (system_of i.threads.items i.memory) v c.in_ok-with.field-0 n t
    (touch_is c.as_slice-globals.result.now i.program.now.globals c.as_slice.result.now i.threads.items i.memory n t c.as_slice-globals.ensures c.as_slice.ensures.value
    (c.touch_of-touched.ensures i.memory)) (sym c.reaches.ensures ∙ c.if-reaches.false)
    (subst (λ x. (k b o : ℕ) → Meets x (touch_in v.touches.items k) b o → ⊥) c.live.ensures (c.meets.ensures c.if-meets.false)) c.in_ok-with.ensures.added c.in_ok-with.ensures.blocks)
