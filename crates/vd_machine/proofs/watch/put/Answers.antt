use Rattle.std.proofs.Common.{◌≡◌, ◌&&◌, ◌||◌, sym, subst}
use Rattle.std.specs.Prelude.{◌==◌}
use Rattle.vd_machine.specs.Touches.{is_at}
use Rattle.vd_machine.specs.Watching.{has}
use Rattle.vd_machine.proofs.Places.{put_one}
use Rattle.vd_machine.proofs.watch.put.Goals as goal

pub returns-in_ok-insert-in-Some : goal.returns-in_ok-insert-in-Some
returns-in_ok-insert-in-Some c = λ b o k.
    subst (λ s. has c.insert.new.self b o k ≡ ((is_at s b o && (c.args.thread == k)) || has c.args.set.now b o k)) (sym c.in-Some.is)
    (put_one c.args.set.now c.insert.new.self c.in-Some.spot c.args.thread b o k (c.in_ok-insert-in-Some.ensures.updates.0 (b, o, k)))
