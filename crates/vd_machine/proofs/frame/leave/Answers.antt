use Rattle.std.proofs.Common.{rules, ◌≡◌, length, ◌∙◌}
use Rattle.std.specs.Vec.{vec_len, vec_capacity}
use Rattle.vd_machine.proofs.Codes.{loops_more}
use Rattle.vd_machine.proofs.Rooms.{fit_popped}
use Rattle.vd_machine.proofs.frame.leave.Goals as goal

pub loop-frame-preserved : goal.loop-frame-preserved
loop-frame-preserved c = record {
  loops = loops_more c.loop-frame.frame.level c.in-Some.level c.loop-frame.frame.below.items c.pop.new.self.items (search rules)
      c.in-Some.ensures.items ∙ c.loop-frame.invariant.loops;
  temps = c.loop-frame.invariant.temps;
  roomy = λ h.
      let old = c.loop-frame.frame.below in
      let new = c.pop.new.self in
      let count : vec_len new ≡ length new.items = search rules in
      let k = c.loop-frame.invariant.roomy h in
      fit_popped (vec_capacity old) (vec_capacity new) (vec_len new) old.items new.items c.in-Some.level c.in-Some.ensures.items c.pop.ensures.capacity count k.0;
}

pub returns-in-Some-pop-clause-roomy : goal.returns-in-Some-pop-clause-roomy
returns-in-Some-pop-clause-roomy c = λ h.
    let old = c.loop-frame.frame.below in
    let new = c.pop-2.new.self in
    let count : vec_len new ≡ length new.items = search rules in
    let k = c.loop-frame.invariant.roomy h in
    fit_popped (vec_capacity old) (vec_capacity new) (vec_len new) old.items new.items c.in-Some-pop.level c.in-Some-pop.ensures.items c.pop-2.ensures.capacity count k.0
