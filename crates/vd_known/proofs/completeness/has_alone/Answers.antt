use Rattle.std.proofs.Common.{sym, ◌∙◌, refl, rules}
use Rattle.std.proofs.lemmas.Bool.{iff_false}
use Rattle.vd_known.specs.HeaderNames.{IsIn}
use Rattle.vd_known.proofs.NamedLaws.{none_start, none_next, none_all, key_listed}
use Rattle.vd_known.proofs.completeness.has_alone.Goals as goal

pub loop-name-init : goal.loop-name-init
loop-name-init c = none_start (λ f. IsIn c.args.bodies.now.functions f → ⊥) c.as_slice-name-items.result.now

pub loop-name-preserved : goal.loop-name-preserved
loop-name-preserved c = none_next (λ f. IsIn c.args.bodies.now.functions f → ⊥) c.as_slice-name-items.result.now c.loop-name.name-index _ c.loop-name.invariant c.loop-name-test.true
    (λ p. p (sym c.has.ensures ∙ (search rules)))

pub returns-then-not-has : goal.returns-then-not-has
returns-then-not-has c = λ lines bodies. (
  λ _. (
    _,
    (
      (bodies.scripts.named _).0 (key_listed c.as_slice-name-items.result.now c.args.bodies.now.scripts.listed c.loop-name.name-index _ c.as_slice-name-items.ensures c.loop-name-test.true),
      iff_false (bodies.functions.named _) (sym c.has.ensures ∙ (search rules)),
    ),
  ),
  λ _. refl,
)

pub returns : goal.returns
returns c = λ lines bodies. (
  λ e. absurd (cc),
  λ h. absurd (none_all (λ f. IsIn c.args.bodies.now.functions f → ⊥) c.as_slice-name-items.result.now c.args.bodies.now.scripts.listed c.loop-name.name-index c.as_slice-name-items.ensures c.loop-name-test.false c.loop-name.invariant h.0
      ((bodies.scripts.named h.0).1 h.1.0) (λ i. h.1.1 ((bodies.functions.named h.0).0 i))),
)
