use Rattle.std.proofs.Common.{◌≡◌, true, subst}
use Rattle.vd_machine.specs.Touches.{is_in}
use Rattle.vd_machine.proofs.Places.{none_in_block, other_in_block}
use Rattle.vd_machine.proofs.watch.is_block_met.Goals as goal

pub returns-in-Some-next : goal.returns-in-Some-next
returns-in-Some-next c = λ far b o k h.
    other_in_block c.args.set.now c.range.result c.next.new.self c.in-Some-next.place.now c.in-Some.block b o k (c.range.ensures.in_range tt) c.in-Some-next.ensures.steps far
    (subst (λ s. is_in s b ≡ true) c.in-Some.is h)

pub returns-in-None-next : goal.returns-in-None-next
returns-in-None-next c = λ far b o k h.
    none_in_block c.args.set.now c.range.result c.in-Some.block b o k (c.range.ensures.in_range tt) c.in-None-next.ensures.steps.0 (subst (λ s. is_in s b ≡ true) c.in-Some.is h)
