use Rattle.std.proofs.Common.{◌≡◌, suc, max, sym, ◌∙◌, ap, subst, arith}
use Rattle.std.specs.Prelude.{IfOk}
use Rattle.vd_clight.specs.declared.typed.TStmt.{out-TStmt}
use Rattle.vd_clight.specs.declared.typed.TStmt.TheOpen as layer
use Rattle.vd_clight.specs.declared.typed.TStmt.TheVariants.{outs-Skip, outs-Set, outs-Load, outs-Store, outs-Call, outs-Free, outs-Lock, outs-Spawn, outs-If, outs-Loop, outs-Break, outs-Continue, outs-Return}
use Rattle.vd_machine.specs.Frames.{Does, acted}
use Rattle.vd_machine.specs.Room.{depth, depth_of}
use Rattle.vd_machine.proofs.Calls.{at_pick}
use Rattle.vd_machine.proofs.Rooms.{depth-If, depth-Loop}
use Rattle.vd_machine.proofs.statement.statement.Goals as goal

pub returns-in-Set-clause-ok : goal.returns-in-Set-clause-ok
returns-in-Set-clause-ok c =
    subst (λ l. Does (acted c.args.program.now c.args.pick l c.args.thread.now c.args.memory.now) c.args.thread.now c.set.new.thread c.args.memory.now c.args.memory.now c.set.result)
    (sym (ap out-TStmt c.in-Set.is ∙ outs-Set c.in-Set.number c.in-Set.e)) (c.set.ensures.does c.args.pick)

pub returns-in-Load-clause-ok : goal.returns-in-Load-clause-ok
returns-in-Load-clause-ok c =
    subst (λ l. Does (acted c.args.program.now c.args.pick l c.args.thread.now c.args.memory.now) c.args.thread.now c.load.new.thread c.args.memory.now c.args.memory.now c.load.result)
    (sym (ap out-TStmt c.in-Load.is ∙ outs-Load c.in-Load.number c.in-Load.place)) (c.load.ensures.does c.args.pick)

pub returns-in-Free-clause-ok : goal.returns-in-Free-clause-ok
returns-in-Free-clause-ok c =
    subst (λ l. Does (acted c.args.program.now c.args.pick l c.args.thread.now c.args.memory.now) c.args.thread.now c.free.new.thread c.args.memory.now c.free.new.memory c.free.result)
    (sym (ap out-TStmt c.in-Free.is ∙ outs-Free c.in-Free.e)) (c.free.ensures.does c.args.pick)

pub returns-in-Break-clause-ok : goal.returns-in-Break-clause-ok
returns-in-Break-clause-ok c =
    subst (λ l. Does (acted c.args.program.now c.args.pick l c.args.thread.now c.args.memory.now) c.args.thread.now c.leave_loop.new.thread c.args.memory.now c.args.memory.now c.leave_loop.result)
    (sym (ap out-TStmt c.in-Break.is ∙ outs-Break)) (c.leave_loop.ensures.does c.args.pick)

pub returns-in-Continue-clause-ok : goal.returns-in-Continue-clause-ok
returns-in-Continue-clause-ok c =
    subst (λ l. Does (acted c.args.program.now c.args.pick l c.args.thread.now c.args.memory.now) c.args.thread.now c.skip_rest.new.thread c.args.memory.now c.args.memory.now c.skip_rest.result)
    (sym (ap out-TStmt c.in-Continue.is ∙ outs-Continue)) (c.skip_rest.ensures.does c.args.pick)

pub returns-in-Store-clause-ok : goal.returns-in-Store-clause-ok
returns-in-Store-clause-ok c =
    subst (λ l. IfOk c.store.result (λ d. Does (acted c.args.program.now c.args.pick l c.args.thread.now c.args.memory.now) c.args.thread.now c.store.new.thread c.args.memory.now c.store.new.memory d))
    (sym (ap out-TStmt c.in-Store.is ∙ outs-Store c.in-Store.place c.in-Store.e))
    (at_pick c.store.result (λ pick d. Does (acted c.args.program.now pick (layer.Store c.in-Store.place c.in-Store.e) c.args.thread.now c.args.memory.now) c.args.thread.now c.store.new.thread c.args.memory.now c.store.new.memory d) c.store.ensures.ok c.args.pick)

pub returns-in-Call-clause-ok : goal.returns-in-Call-clause-ok
returns-in-Call-clause-ok c =
    subst (λ l. IfOk c.call.result (λ d. Does (acted c.args.program.now c.args.pick l c.args.thread.now c.args.memory.now) c.args.thread.now c.call.new.thread c.args.memory.now c.args.memory.now d))
    (sym (ap out-TStmt c.in-Call.is ∙ outs-Call c.in-Call.target c.in-Call.name c.in-Call.arguments))
    (at_pick c.call.result (λ pick d. Does (acted c.args.program.now pick (layer.Call c.in-Call.target c.in-Call.name c.in-Call.arguments) c.args.thread.now c.args.memory.now) c.args.thread.now c.call.new.thread c.args.memory.now c.args.memory.now d) c.call.ensures.ok c.args.pick)

pub returns-in-Lock-clause-ok : goal.returns-in-Lock-clause-ok
returns-in-Lock-clause-ok c =
    subst (λ l. IfOk c.lock.result (λ d. Does (acted c.args.program.now c.args.pick l c.args.thread.now c.args.memory.now) c.args.thread.now c.lock.new.thread c.args.memory.now c.lock.new.memory d))
    (sym (ap out-TStmt c.in-Lock.is ∙ outs-Lock c.in-Lock.op c.in-Lock.e))
    (at_pick c.lock.result (λ pick d. Does (acted c.args.program.now pick (layer.Lock c.in-Lock.op c.in-Lock.e) c.args.thread.now c.args.memory.now) c.args.thread.now c.lock.new.thread c.args.memory.now c.lock.new.memory d) c.lock.ensures.ok c.args.pick)

pub returns-in-Spawn-clause-ok : goal.returns-in-Spawn-clause-ok
returns-in-Spawn-clause-ok c =
    subst (λ l. IfOk c.spawn.result (λ d. Does (acted c.args.program.now c.args.pick l c.args.thread.now c.args.memory.now) c.args.thread.now c.spawn.new.thread c.args.memory.now c.args.memory.now d))
    (sym (ap out-TStmt c.in-Spawn.is ∙ outs-Spawn c.in-Spawn.name c.in-Spawn.e))
    (at_pick c.spawn.result (λ pick d. Does (acted c.args.program.now pick (layer.Spawn c.in-Spawn.name c.in-Spawn.e) c.args.thread.now c.args.memory.now) c.args.thread.now c.spawn.new.thread c.args.memory.now c.args.memory.now d) c.spawn.ensures.ok c.args.pick)

pub returns-in-If-clause-ok : goal.returns-in-If-clause-ok
returns-in-If-clause-ok c =
    subst (λ l. Does (acted c.args.program.now c.args.pick l c.args.thread.now c.args.memory.now) c.args.thread.now c.choose.new.thread c.args.memory.now c.args.memory.now c.choose.result)
    (sym (ap out-TStmt c.in-If.is ∙ outs-If c.in-If.condition c.in-If.yes c.in-If.no)) (c.choose.ensures.does c.args.pick)

pub returns-in-Loop-clause-ok : goal.returns-in-Loop-clause-ok
returns-in-Loop-clause-ok c =
    subst (λ l. Does (acted c.args.program.now c.args.pick l c.args.thread.now c.args.memory.now) c.args.thread.now c.begin.new.thread c.args.memory.now c.args.memory.now c.begin.result)
    (sym (ap out-TStmt c.in-Loop.is ∙ outs-Loop c.in-Loop.body)) (c.begin.ensures.does c.args.pick)

pub returns-in-Skip-clause-ok : goal.returns-in-Skip-clause-ok
returns-in-Skip-clause-ok c =
    subst (λ l. Does (acted c.args.program.now c.args.pick l c.args.thread.now c.args.memory.now) c.args.thread.now c.nothing.new.thread c.args.memory.now c.args.memory.now c.nothing.result)
    (sym (ap out-TStmt c.in-Skip.is ∙ outs-Skip)) (c.nothing.ensures.does c.args.pick)

pub returns-in-Return-clause-ok : goal.returns-in-Return-clause-ok
returns-in-Return-clause-ok c =
    subst (λ l. Does (acted c.args.program.now c.args.pick l c.args.thread.now c.args.memory.now) c.args.thread.now c.give_back.new.thread c.args.memory.now c.args.memory.now c.give_back.result)
    (sym (ap out-TStmt c.in-Return.is ∙ outs-Return c.in-Return.e)) (c.give_back.ensures.does c.args.pick)

pub choose-requires-clause-yes_fits : goal.choose-requires-clause-yes_fits
choose-requires-clause-yes_fits c =
    let d : depth c.args.s.now ≡ suc (max (depth_of c.in-If.yes) (depth_of c.in-If.no)) = ap depth c.in-If.is ∙ depth-If c.in-If.condition c.in-If.yes c.in-If.no in
    let f = c.requires.fits in
    omega arith

pub choose-requires-clause-no_fits : goal.choose-requires-clause-no_fits
choose-requires-clause-no_fits c =
    let d : depth c.args.s.now ≡ suc (max (depth_of c.in-If.yes) (depth_of c.in-If.no)) = ap depth c.in-If.is ∙ depth-If c.in-If.condition c.in-If.yes c.in-If.no in
    let f = c.requires.fits in
    omega arith

pub begin-requires-clause-fits : goal.begin-requires-clause-fits
begin-requires-clause-fits c =
    let d : depth c.args.s.now ≡ suc (depth_of c.in-Loop.body) = ap depth c.in-Loop.is ∙ depth-Loop c.in-Loop.body in
    let f = c.requires.fits in
    omega arith
