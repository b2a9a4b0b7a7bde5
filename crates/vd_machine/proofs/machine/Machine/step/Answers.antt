use Rattle.std.proofs.Common.{rules, ◌≡◌, ◌≤◌, ◌+◌, length, map, sym, ◌∙◌, ap, arith}
use Rattle.std.proofs.lemmas.List.{length-map}
use Rattle.vd_machine.specs.Kept.{slot_of}
use Rattle.vd_machine.specs.Run.{Next, turn}
use Rattle.vd_machine.specs.Turns.{system_of, turned_by}
use Rattle.vd_machine.proofs.Growth.{turn_grows}
use Rattle.vd_machine.proofs.Spawning.{turn_threads}
use Rattle.vd_machine.proofs.machine.Machine.step.Goals as goal

pub invariant_of-self-in-Moved : goal.invariant_of-self-in-Moved
invariant_of-self-in-Moved c =
    let i = c.self.inside in
    let before = system_of i.threads.items i.memory in
    let after = system_of c.turn.new.threads.items c.turn.new.memory in
    let is : Next after ≡ turn i.program.now c.args.thread c.args.pick before = sym (ap (λ r. turned_by r after) c.in-Moved.is) ∙ c.in_ok-turn.ensures.ok in
    let h : length c.turn.new.memory ≤ length i.memory + 1 = turn_grows i.program.now c.args.thread c.args.pick before after is in
    record {
      globals = c.self.invariant.globals;
      rooms_are = c.self.invariant.rooms_are;
      blocks = let k = c.self.invariant.blocks in omega arith;
      count =
          let more : length (map slot_of c.turn.new.threads.items) ≤ length (map slot_of i.threads.items) + 1 = turn_threads i.program.now c.args.thread c.args.pick before after is in
          let a : length (map slot_of c.turn.new.threads.items) ≡ length c.turn.new.threads.items = length-map c.turn.new.threads.items slot_of in
          let b : length (map slot_of i.threads.items) ≡ length i.threads.items = length-map i.threads.items slot_of in
          let k = c.self.invariant.count in
          omega arith;
      few = search rules;
      ready = c.turn.ensures.ready;
    }
