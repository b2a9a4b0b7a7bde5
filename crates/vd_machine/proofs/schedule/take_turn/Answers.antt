use Rattle.vd_machine.proofs.Followed.{follows_if, still_if}
use Rattle.vd_machine.proofs.schedule.take_turn.Goals as goal

pub watched-requires : goal.watched-requires
watched-requires c =
    follows_if c.args.machine.now c.step.new.self c.in_ok-stepped.stepped c.args.turn.now.thread c.args.turn.now.pick c.args.watch c.in-Some.watch c.in_ok-stepped.ensures.ok
    c.requires.watch c.in-Some.is

pub returns-in_ok-followed-in-Some-clause-watch : goal.returns-in_ok-followed-in-Some-clause-watch
returns-in_ok-followed-in-Some-clause-watch c =
    still_if c.args.machine.now c.step.new.self c.in_ok-stepped.stepped c.args.turn.now.thread c.args.turn.now.pick c.args.watch c.in_ok-followed-in-Some.followed c.in-Some.watch
    c.in_ok-stepped.ensures.ok c.requires.watch c.in-Some.is c.in_ok-followed-in-Some.ensures
