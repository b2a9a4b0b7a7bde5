use Rattle.std.proofs.Common.{rules, ◌≡◌, ◌<◌, length, sym, subst}
use Rattle.vd_machine.specs.Watching.{IsNoted}
use Rattle.vd_machine.proofs.Noted.{noted_set, noted_added}
use Rattle.vd_machine.proofs.watch.note.Goals as goal

pub returns-then-at-len : goal.returns-then-at-len
returns-then-at-len c =
    let l : c.args.thread < length c.args.touches.now.items = search rules in
    noted_set c.args.touches.now.items c.args.thread c.args.touched l

pub returns-in_ok-push : goal.returns-in_ok-push
returns-in_ok-push c =
    let e : c.args.thread ≡ length c.args.touches.now.items = search rules in
    subst (λ us. IsNoted c.args.touches.now.items c.args.thread c.args.touched us) (sym c.in_ok-push.ensures.items) (noted_added c.args.touches.now.items c.args.thread c.args.touched e)
