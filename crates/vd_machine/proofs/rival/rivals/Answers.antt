use Rattle.std.proofs.Common.{rules, ◌≡◌, ◌≤◌, length, map, arith}
use Rattle.std.proofs.lemmas.List.{length-map}
use Rattle.vd_machine.specs.Kept.{slot_of}
use Rattle.vd_machine.specs.Turns.{system_of}
use Rattle.vd_machine.proofs.Rivals.{rivals_found, rivals_none}
use Rattle.vd_machine.proofs.rival.rivals.Goals as goal

pub returns-in-Some : goal.returns-in-Some
returns-in-Some c =
    let a = c.args in
    rivals_found a.globals.now (system_of a.threads.now a.memory.now) c.loop-first.first c.in-Some.second c.in-Some.spot c.in-Some.ensures c.loop-first.invariant

pub returns : goal.returns
returns c =
    let a = c.args in
    let count : length (map slot_of a.threads.now) ≡ length a.threads.now = length-map a.threads.now slot_of in
    let l : length a.threads.now ≤ c.loop-first.first = search rules in
    rivals_none a.globals.now (system_of a.threads.now a.memory.now) c.loop-first.first (omega arith) c.loop-first.invariant
