use Rattle.std.proofs.Common.{rules, ◌≡◌, length, arith}
use Rattle.std.specs.Vec.{vec_len, vec_capacity}
use Rattle.vd_machine.proofs.Rooms.{fit_pushed}
use Rattle.vd_machine.proofs.frame.enter.Goals as goal

pub returns-clause-roomy : goal.returns-clause-roomy
returns-clause-roomy c = λ h.
    let old = c.args.frame.now.below in
    let new = c.push_reserved.new.self in
    let count : vec_len old ≡ length old.items = search rules in
    let longer = c.push_reserved.ensures.len in
    let same = c.push_reserved.ensures.capacity in
    let fits = c.requires.room in
    (fit_pushed (vec_capacity old) (vec_capacity new) (vec_len old) old.items new.items _ c.push_reserved.ensures.items same count h.0 h.1, omega arith)
