use Rattle.std.proofs.Common.{refl}
use Rattle.vd_known.proofs.OwnLaws.{own_here, none_own}
use Rattle.vd_known.proofs.completeness.has_own.Goals as goal

pub returns : goal.returns
returns c = (λ e. absurd (cc), λ h. absurd (none_own c.args.view.now c.args.space c.args.name.now c.spots-spot-items.result.now c.loop-spot.spot-index c.spots-spot-items.ensures c.loop-spot-test.false c.loop-spot.invariant h))

pub returns-then-spot-view : goal.returns-then-spot-view
returns-then-spot-view c = (λ _. own_here c.args.view.now c.args.space c.args.name.now c.spots-spot-items.result.now c.loop-spot.spot-index _ c.spots-spot-items.ensures c.loop-spot-test.true c.if-spot-view.true, λ _. refl)
