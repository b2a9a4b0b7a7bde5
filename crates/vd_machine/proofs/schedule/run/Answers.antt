use Rattle.std.proofs.Common.{rules, ◌≡◌, ◌<◌, ◌+◌, length, get_or, false, refl, sym, ◌∙◌, ap, subst}
use Rattle.vd_machine.specs.declared.answer.Turn.{Turn}
use Rattle.vd_machine.specs.Along.{IsNextRace}
use Rattle.vd_machine.specs.Machine.{turned}
use Rattle.vd_machine.proofs.Runs.{along_first, along_more, race_first, race_more, runs_open, runs_ended, item_at, still_by, watches_by}
use Rattle.vd_machine.proofs.schedule.run.Goals as goal

pub loop-turn-init : goal.loop-turn-init
loop-turn-init c =
    let p = c.args.program.now in
    let xs = c.args.schedule.now in
    let along = along_first p xs c.in_ok-machine.machine c.in_ok-machine.ensures.ok in
    record {
      along = along;
      race = race_first p xs c.in_ok-machine.machine c.race_now-race.result along c.race_now-race.ensures;
      globals = c.in_ok-machine.ensures.globals;
      turns = refl;
      watch = c.in_ok-watch.ensures;
    }

pub returns-in-Some : goal.returns-in-Some
returns-in-Some c =
    let p = c.args.program.now in
    let xs = c.args.schedule.now in
    let i = c.loop-turn.turn-index in
    let same : c.as_slice-turn-items.result.now ≡ xs = c.as_slice-turn-items.ensures in
    let l : i < length xs = subst (λ ys. i < length ys) same c.loop-turn-test.true in
    let none : Turn = record { thread = 0; pick = false } in
    let x : Turn = get_or xs i none in
    let e : x ≡ get_or xs i x = item_at xs i none l in
    let h : (c.in_ok-stepped.stepped, c.take_turn.new.machine) ≡ turned c.loop-turn.machine x.thread x.pick =
    subst (λ ys. (c.in_ok-stepped.stepped, c.take_turn.new.machine) ≡ turned c.loop-turn.machine (get_or {A = Turn} ys i none).thread (get_or {A = Turn} ys i none).pick)
    same c.in_ok-stepped.ensures.stepped in
    runs_ended p xs i (c.loop-turn.turns + 1) c.loop-turn.machine c.take_turn.new.machine x c.in_ok-stepped.stepped c.in-Some.end c.loop-turn.race l e
    h (sym c.end_by.ensures ∙ c.in-Some.is) (ap (λ n. n + 1) c.loop-turn.invariant.turns) c.loop-turn.invariant.along c.loop-turn.invariant.race

pub loop-turn-preserved : goal.loop-turn-preserved
loop-turn-preserved c =
    let p = c.args.program.now in
    let xs = c.args.schedule.now in
    let i = c.loop-turn.turn-index in
    let same : c.as_slice-turn-items.result.now ≡ xs = c.as_slice-turn-items.ensures in
    let l : i < length xs = subst (λ ys. i < length ys) same c.loop-turn-test.true in
    let none : Turn = record { thread = 0; pick = false } in
    let x : Turn = get_or xs i none in
    let e : x ≡ get_or xs i x = item_at xs i none l in
    let h : (c.in_ok-stepped.stepped, c.take_turn.new.machine) ≡ turned c.loop-turn.machine x.thread x.pick =
    subst (λ ys. (c.in_ok-stepped.stepped, c.take_turn.new.machine) ≡ turned c.loop-turn.machine (get_or {A = Turn} ys i none).thread (get_or {A = Turn} ys i none).pick)
    same c.in_ok-stepped.ensures.stepped in
    let before = c.loop-turn.invariant.along in
    let along = along_more p xs i c.loop-turn.machine c.take_turn.new.machine x c.in_ok-stepped.stepped l e h (sym c.end_by.ensures ∙ c.in_default.is) before in
    let turns : c.loop-turn.turns + 1 ≡ i + 1 = ap (λ n. n + 1) c.loop-turn.invariant.turns in
    let shown : IsNextRace c.take_turn.new.machine c.is_some.result (i + 1) c.loop-turn.race c.next_race-race.result =
    subst (λ n. IsNextRace c.take_turn.new.machine c.is_some.result n c.loop-turn.race c.next_race-race.result) turns c.next_race-race.ensures in
    record {
      along = along;
      race = race_more p xs i c.loop-turn.machine c.take_turn.new.machine c.is_some.result c.loop-turn.race c.next_race-race.result before along
          (λ t. still_by p c.loop-turn.machine c.take_turn.new.machine c.in_ok-stepped.followed before.program along.program c.in_ok-stepped.ensures.watch (sym c.is_some.ensures ∙ t))
          c.loop-turn.invariant.race shown;
      globals = c.loop-turn.invariant.globals;
      turns = turns;
      watch = watches_by c.loop-turn.machine c.take_turn.new.machine c.in_ok-stepped.followed c.in_ok-stepped.ensures.watch;
    }

pub returns : goal.returns
returns c =
    let p = c.args.program.now in
    let xs = c.args.schedule.now in
    let i = c.loop-turn.turn-index in
    let same : c.as_slice-turn-items.result.now ≡ xs = c.as_slice-turn-items.ensures in
    let end : i ≡ length xs = search rules in
    runs_open p xs i c.loop-turn.turns c.loop-turn.machine c.loop-turn.race end c.loop-turn.invariant.turns c.loop-turn.invariant.along c.loop-turn.invariant.race
