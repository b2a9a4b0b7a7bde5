use Rattle.std.proofs.Common.{rules, ◌≡◌, ◌<◌, ◌≤◌, length, map, sym, ◌∙◌, arith}
use Rattle.std.proofs.lemmas.List.{length-map}
use Rattle.vd_machine.specs.Kept.{slot_of}
use Rattle.vd_machine.proofs.Calm.{touches_none}
use Rattle.vd_machine.proofs.Rivals.{touches_at}
use Rattle.vd_machine.proofs.Rooms.{ready_at}
use Rattle.vd_machine.proofs.rival.touch_of.Goals as goal

pub slot_touch-requires-clause-ready : goal.slot_touch-requires-clause-ready
slot_touch-requires-clause-ready c =
    let l : c.args.number < length c.args.threads.now = search rules in
    ready_at c.args.threads.now c.args.number c.index-threads-number.result l c.index-threads-number.is c.requires.ready

pub returns-then-number-threads : goal.returns-then-number-threads
returns-then-number-threads c = λ m.
    let l : c.args.number < length c.args.threads.now = search rules in
    touches_at c.args.globals.now c.args.threads.now m c.args.number c.index-threads-number.result c.slot_touch.result l c.index-threads-number.is c.slot_touch.ensures

pub returns : goal.returns
returns c = λ m.
    let l : length c.args.threads.now ≤ c.args.number = search rules in
    let count : length (map slot_of c.args.threads.now) ≡ length c.args.threads.now = length-map c.args.threads.now slot_of in
    c.nothing.ensures ∙ sym (touches_none c.args.globals.now c.args.threads.now m c.args.number (omega arith))
