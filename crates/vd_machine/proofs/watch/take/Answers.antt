use Rattle.std.proofs.Common.{◌≡◌, not, ◌&&◌, sym, subst}
use Rattle.std.specs.Prelude.{◌==◌}
use Rattle.vd_machine.specs.Touches.{is_at}
use Rattle.vd_machine.specs.Watching.{has}
use Rattle.vd_machine.proofs.Places.{take_one}
use Rattle.vd_machine.proofs.watch.take.Goals as goal

pub returns-in-Some : goal.returns-in-Some
returns-in-Some c = λ b o k.
    subst (λ s. has c.remove-was_there.new.self b o k ≡ (not (is_at s b o && (c.args.thread == k)) && has c.args.set.now b o k)) (sym c.in-Some.is)
    (take_one c.args.set.now c.remove-was_there.new.self c.in-Some.spot c.args.thread b o k (c.remove-was_there.ensures.updates.0 (b, o, k)))
