use Rattle.std.proofs.Common.{◌≡◌, true, false, get_or, refl, sym, ◌∙◌}
use Rattle.std.proofs.lemmas.List.{get_or_default}
use Rattle.vd_sized.specs.Agreement.{DiffersAt}
use Rattle.vd_sized.proofs.Defining.{otherwise_in, none_otherwise}
use Rattle.vd_sized.proofs.Disagreeing.{none_more, none_all}
use Rattle.vd_sized.proofs.agreement.is_declared_otherwise.Goals as goal

no : false ≡ true → ⊥
no e = cc

pub returns-then-differs_at : goal.returns-then-differs_at
returns-then-differs_at c =
    let xs = c.spots-spot-items.result.now in (
      λ t. otherwise_in c.args.view.now.parts.now c.args.view.now.own c.args.content.now c.args.space c.args.name.now c.as_bytes.result.now xs c.requires.named c.as_bytes.ensures.value c.spots-spot-items.ensures
          c.loop-spot.spot-index (get_or xs c.loop-spot.spot-index (record { part = 0; section = 0 })) c.loop-spot-test.true (get_or_default xs c.loop-spot.spot-index _ _ c.loop-spot-test.true) (c.differs_at.ensures.0 c.if-differs_at.true),
      λ w. refl,
    )

pub loop-spot-preserved : goal.loop-spot-preserved
loop-spot-preserved c =
    none_more (λ x. DiffersAt c.args.view.now.parts.now c.args.view.now.own c.args.content.now x.part x.section) c.spots-spot-items.result.now c.loop-spot.spot-index _ c.loop-spot-test.true (get_or_default c.spots-spot-items.result.now c.loop-spot.spot-index _ _ c.loop-spot-test.true)
    (λ d. no (sym c.if-differs_at.false ∙ c.differs_at.ensures.1 d)) c.loop-spot.invariant

pub returns : goal.returns
returns c = (
  λ t. absurd (no t),
  λ w. absurd (none_otherwise c.args.view.now.parts.now c.args.view.now.own c.args.content.now c.args.space c.args.name.now c.as_bytes.result.now c.spots-spot-items.result.now c.requires.named c.as_bytes.ensures.value c.spots-spot-items.ensures
      (none_all (λ x. DiffersAt c.args.view.now.parts.now c.args.view.now.own c.args.content.now x.part x.section) c.spots-spot-items.result.now c.loop-spot.spot-index c.loop-spot-test.false c.loop-spot.invariant) w),
)
