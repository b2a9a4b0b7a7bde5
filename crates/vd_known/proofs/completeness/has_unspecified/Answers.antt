use Rattle.std.proofs.Common.{refl, rules}
use Rattle.vd_known.specs.Completeness.{IsUnknown}
use Rattle.vd_known.proofs.NamedLaws.{none_start, none_next, none_all, key_listed}
use Rattle.vd_known.proofs.completeness.has_unspecified.Goals as goal

pub loop-name-init : goal.loop-name-init
loop-name-init c = none_start (λ f. IsUnknown c.args.view.now.parts.now c.args.view.now.own f) c.as_slice-name-items.result.now

pub loop-name-preserved : goal.loop-name-preserved
loop-name-preserved c = none_next (λ f. IsUnknown c.args.view.now.parts.now c.args.view.now.own f) c.as_slice-name-items.result.now c.loop-name.name-index _ c.loop-name.invariant c.loop-name-test.true
    (λ p. absurd (let t = c.is_unspecified.ensures.1 p in search rules))

pub returns-then-is_unspecified : goal.returns-then-is_unspecified
returns-then-is_unspecified c = λ lines bodies.
    (λ _. (_, ((bodies.functions.named _).0 (key_listed c.as_slice-name-items.result.now c.args.bodies.now.functions.listed c.loop-name.name-index _ c.as_slice-name-items.ensures c.loop-name-test.true), c.is_unspecified.ensures.0 (search rules))), λ _. refl)

pub returns : goal.returns
returns c = λ lines bodies.
    (λ e. absurd (cc), λ h. absurd (none_all (λ f. IsUnknown c.args.view.now.parts.now c.args.view.now.own f) c.as_slice-name-items.result.now c.args.bodies.now.functions.listed c.loop-name.name-index c.as_slice-name-items.ensures c.loop-name-test.false c.loop-name.invariant h.0 ((bodies.functions.named h.0).1 h.1.0) h.1.1))
