use Rattle.std.proofs.Common.{◌≡◌, true, subst, inl, inr}
use Rattle.vd_machine.specs.Touches.{is_at}
use Rattle.vd_machine.proofs.Places.{none_at, other_at}
use Rattle.vd_machine.proofs.watch.is_met.Goals as goal

pub returns-then-place-spot : goal.returns-then-place-spot
returns-then-place-spot c = λ far b o k h.
    other_at c.args.set.now c.range.result c.next.new.self c.in-Some.spot c.in-Some-next.place.now b o k (c.range.ensures.in_range tt) c.in-Some-next.ensures.steps (inr far)
    (subst (λ s. is_at s b o ≡ true) c.in-Some.is h)

pub returns-else-place-spot : goal.returns-else-place-spot
returns-else-place-spot c = λ far b o k h.
    other_at c.args.set.now c.range.result c.next.new.self c.in-Some.spot c.in-Some-next.place.now b o k (c.range.ensures.in_range tt) c.in-Some-next.ensures.steps (inl far)
    (subst (λ s. is_at s b o ≡ true) c.in-Some.is h)

pub returns-in-None-next : goal.returns-in-None-next
returns-in-None-next c = λ far b o k h.
    none_at c.args.set.now c.range.result c.in-Some.spot b o k (c.range.ensures.in_range tt) c.in-None-next.ensures.steps.0 (subst (λ s. is_at s b o ≡ true) c.in-Some.is h)
