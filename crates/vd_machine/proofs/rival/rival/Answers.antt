use Rattle.std.proofs.Common.{rules, ◌≡◌, ◌<◌, ◌≤◌, length, map, sym, ◌∙◌, arith}
use Rattle.std.proofs.lemmas.List.{length-map}
use Rattle.vd_machine.specs.Kept.{slot_of}
use Rattle.vd_machine.specs.Turns.{system_of}
use Rattle.vd_machine.proofs.Rivals.{touches_at, rival_more, rival_found, rival_none}
use Rattle.vd_machine.proofs.Rooms.{ready_at}
use Rattle.vd_machine.proofs.rival.rival.Goals as goal

pub slot_touch-touched-requires-clause-ready : goal.slot_touch-touched-requires-clause-ready
slot_touch-touched-requires-clause-ready c = ready_at c.args.threads.now c.args.first c.index-threads-first.result c.requires.first c.index-threads-first.is c.requires.ready

pub slot_touch-other-requires-clause-ready : goal.slot_touch-other-requires-clause-ready
slot_touch-other-requires-clause-ready c =
    let l : c.loop-second.second < length c.args.threads.now = search rules in
    ready_at c.args.threads.now c.loop-second.second c.index-threads-second.result l c.index-threads-second.is c.requires.ready

pub returns-in-Some : goal.returns-in-Some
returns-in-Some c =
    let a = c.args in
    let s = system_of a.threads.now a.memory.now in
    let l : c.loop-second.second < length a.threads.now = search rules in
    let count : length (map slot_of a.threads.now) ≡ length a.threads.now = length-map a.threads.now slot_of in
    let later : a.first < c.loop-second.second = search rules in
    rival_found a.globals.now s a.first c.loop-second.second c.slot_touch-touched.result c.slot_touch-other.result c.in-Some.spot later (omega arith)
    (touches_at a.globals.now a.threads.now a.memory.now a.first c.index-threads-first.result c.slot_touch-touched.result c.requires.first c.index-threads-first.is c.slot_touch-touched.ensures)
    (touches_at a.globals.now a.threads.now a.memory.now c.loop-second.second c.index-threads-second.result c.slot_touch-other.result l c.index-threads-second.is c.slot_touch-other.ensures)
    (sym c.clash.ensures ∙ c.in-Some.is) c.loop-second.invariant

pub loop-second-preserved : goal.loop-second-preserved
loop-second-preserved c =
    let a = c.args in
    let s = system_of a.threads.now a.memory.now in
    let l : c.loop-second.second < length a.threads.now = search rules in
    rival_more a.globals.now s a.first c.loop-second.second c.slot_touch-touched.result c.slot_touch-other.result
    (touches_at a.globals.now a.threads.now a.memory.now a.first c.index-threads-first.result c.slot_touch-touched.result c.requires.first c.index-threads-first.is c.slot_touch-touched.ensures)
    (touches_at a.globals.now a.threads.now a.memory.now c.loop-second.second c.index-threads-second.result c.slot_touch-other.result l c.index-threads-second.is c.slot_touch-other.ensures)
    (sym c.clash.ensures ∙ c.in_default.is) c.loop-second.invariant

pub returns : goal.returns
returns c =
    let a = c.args in
    let count : length (map slot_of a.threads.now) ≡ length a.threads.now = length-map a.threads.now slot_of in
    let l : length a.threads.now ≤ c.loop-second.second = search rules in
    rival_none a.globals.now (system_of a.threads.now a.memory.now) a.first c.loop-second.second (omega arith) c.loop-second.invariant
