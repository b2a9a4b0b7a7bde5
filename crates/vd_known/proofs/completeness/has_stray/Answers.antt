use Rattle.std.proofs.Common.{inl, inr, refl, rules}
use Rattle.std.proofs.lemmas.Bool.{iff_false}
use Rattle.vd_known.proofs.completeness.has_stray.Goals as goal

pub returns-then-has_unspecified : goal.returns-then-has_unspecified
returns-then-has_unspecified c = λ lines bodies. (λ _. let u = (c.has_unspecified.ensures lines bodies).0 (search rules) in (u.0, inl u.1), λ _. refl)

pub returns-then-has_alone : goal.returns-then-has_alone
returns-then-has_alone c = λ lines bodies. (λ _. let u = (c.has_alone.ensures lines bodies).0 (search rules) in (u.0, inr (inl u.1)), λ _. refl)

pub returns : goal.returns
returns c = λ lines bodies. (
  λ e. let u = (c.has_unasked.ensures lines bodies).0 e in (u.0, inr (inr u.1)),
  λ s. elim s.1 [
    | inl u ↦ absurd (iff_false (c.has_unspecified.ensures lines bodies) (search rules) (s.0, u))
    | inr t ↦ elim t [
      | inl a ↦ absurd (iff_false (c.has_alone.ensures lines bodies) (search rules) (s.0, a))
      | inr u ↦ (c.has_unasked.ensures lines bodies).1 (s.0, u)
    ]
  ],
)
