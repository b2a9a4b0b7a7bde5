use Rattle.std.proofs.Common.{sym, ◌∙◌, refl, rules}
use Rattle.vd_known.proofs.OwnLaws.{exported_here, none_exported}
use Rattle.vd_known.proofs.completeness.has_exported_spec.Goals as goal

pub returns : goal.returns
returns c = (λ e. absurd (cc), λ h. absurd (none_exported c.args.view.now c.args.name.now c.spots-spot-items.result.now c.loop-spot.spot-index c.requires c.spots-spot-items.ensures c.loop-spot-test.false c.loop-spot.invariant h))

pub returns-then-exports : goal.returns-then-exports
returns-then-exports c = (λ _. exported_here c.args.view.now c.args.name.now c.spots-spot-items.result.now c.loop-spot.spot-index _ c.requires c.spots-spot-items.ensures c.loop-spot-test.true (sym c.exports.ensures ∙ (search rules)), λ _. refl)
