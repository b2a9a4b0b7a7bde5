-- Disagreements of a section, by what it says.
use Rattle.std.proofs.Common.{◌≡◌, ℕ, Bool, true, false, not, List, [], ◌∷◌, refl, sym, ap, ◌∙◌, subst, inl, inr, arith, IsTrue, zero, suc}
use Rattle.std.specs.Prelude.{◌↔◌}
use Rattle.std.specs.List.{Any}
use Rattle.vd_base.specs.declared.ctype.Field.{Field}
use Rattle.vd_base.specs.Layout.{are_fields, is_void}
use Rattle.vd_clight.specs.declared.program.Init.{Init}
use Rattle.vd_heads.specs.declared.content.Content.{Content}
use Rattle.vd_heads.specs.declared.content.Content.TheVariants as content
use Rattle.vd_heads.specs.declared.content.Part.{Part}
use Rattle.vd_logic.specs.declared.assertion.Assertion.{Assertion}
use Rattle.vd_logic.specs.declared.assertion.PredDef.{PredDef}
use Rattle.vd_logic.specs.declared.assertion.Spec.{Spec}
use Rattle.vd_sized.specs.Agreement.{Disagrees, IsDisagreement, IsOtherwise, assertion_agrees, IsMisused}
use Rattle.vd_sized.specs.Initial.{HasMisfits}
use Rattle.vd_heads.specs.Assertions.{labels_of}

no : false ≡ true → ⊥
no e = cc

no_items : {X : Type 0} (P : X → Type 0) → Any P [] → ⊥
no_items P a = omega (arith, a.2)

module _ (parts : List Part) (own : ℕ) where
  abbrev D : Content → Type 0
  D = IsDisagreement parts own

  -- ---- an assertion

  pub by_terms : (a : Assertion) → assertion_agrees a ≡ false → IsTrue true ↔ Disagrees parts own a
  by_terms a e = (λ t. inl e, λ d. refl)

  pub by_labels : (a : Assertion) (b : Bool) → assertion_agrees a ≡ true → IsTrue b ↔ Any (IsMisused parts own) (labels_of a) → IsTrue b ↔ Disagrees parts own a
  by_labels a b e h = (λ t. inr (h.0 t), λ d. elim d [ inl f ↦ absurd (no (sym f ∙ e)) | inr m ↦ h.1 m ])

  -- ---- a section

  pub struct_by : (name : List ℕ) (fields : List Field) (b : Bool) → b ≡ are_fields fields → IsTrue (not b) ↔ D (content.Struct name fields)
  struct_by name fields b e = (λ t. inr (inl (ap not (sym e) ∙ t)), back) where
    back : D (content.Struct name fields) → IsTrue (not b)
    back (inl a) = absurd (no_items (Disagrees parts own) a)
    back (inr (inl v)) = ap not e ∙ v
    back (inr (inr (inl m))) = absurd m
    back (inr (inr (inr o))) = absurd (o.differs tt)

  pub void_by : (g : Field) (values : List Init) → is_void g.typ ≡ true → IsTrue true ↔ D (content.Global g values)
  void_by g values e = (λ t. inr (inl e), λ d. refl)

  pub global_by : (g : Field) (values : List Init) (b : Bool) → is_void g.typ ≡ false → IsTrue b ↔ HasMisfits parts own g values → IsTrue b ↔ D (content.Global g values)
  global_by g values b e h = (λ t. inr (inr (inl (h.0 t))), back) where
    back : D (content.Global g values) → IsTrue b
    back (inl a) = absurd (no_items (Disagrees parts own) a)
    back (inr (inl v)) = absurd (no (sym e ∙ v))
    back (inr (inr (inl m))) = h.1 m
    back (inr (inr (inr o))) = absurd (o.differs tt)

  pub pred_assertion : (p : PredDef) (twice : Bool) → Any (Disagrees parts own) p.cases → IsTrue true ↔ D (content.Pred p twice)
  pred_assertion p twice a = (λ t. inl a, λ d. refl)

  pub pred_by : (p : PredDef) (twice b : Bool) → (Any (Disagrees parts own) p.cases → ⊥) → IsTrue b ↔ IsOtherwise parts own (content.Pred p twice) → IsTrue b ↔ D (content.Pred p twice)
  pred_by p twice b n h = (λ t. inr (inr (inr (h.0 t))), back) where
    back : D (content.Pred p twice) → IsTrue b
    back (inl a) = absurd (n a)
    back (inr (inl v)) = absurd (no v)
    back (inr (inr (inl m))) = absurd m
    back (inr (inr (inr o))) = h.1 o

  pub spec_pre : (f : Spec) (twice : Bool) → Disagrees parts own f.pre → IsTrue true ↔ D (content.Spec f twice)
  spec_pre f twice d = (λ t. inl (0, f.pre, omega arith, refl, d), λ x. refl)

  pub spec_post : (f : Spec) (twice : Bool) → Disagrees parts own f.post → IsTrue true ↔ D (content.Spec f twice)
  spec_post f twice d = (λ t. inl (1, f.post, omega arith, refl, d), λ x. refl)

  pub spec_by : (f : Spec) (twice b : Bool) → (Disagrees parts own f.pre → ⊥) → (Disagrees parts own f.post → ⊥) → IsTrue b ↔ IsOtherwise parts own (content.Spec f twice) → IsTrue b ↔ D (content.Spec f twice)
  spec_by f twice b n m h = (λ t. inr (inr (inr (h.0 t))), back) where
    of_two : Any (Disagrees parts own) (f.pre ∷ f.post ∷ []) → ⊥
    of_two (zero, x, lt, e, d) = n (subst (Disagrees parts own) (sym e) d)
    of_two (suc zero, x, lt, e, d) = m (subst (Disagrees parts own) (sym e) d)
    of_two (suc (suc k), x, lt, e, d) = omega arith

    back : D (content.Spec f twice) → IsTrue b
    back (inl a) = absurd (of_two a)
    back (inr (inl v)) = absurd (no v)
    back (inr (inr (inl m))) = absurd m
    back (inr (inr (inr o))) = h.1 o

  nothing : (c : Content) → Type 0
  nothing c = IsTrue false ↔ D c

  pub uses_by : (ms : List _) → IsTrue false ↔ D (content.Uses ms)
  uses_by ms = (λ t. absurd (no t), back) where
    back : D (content.Uses ms) → IsTrue false
    back (inl a) = absurd (no_items (Disagrees parts own) a)
    back (inr (inl v)) = absurd (no v)
    back (inr (inr (inl m))) = absurd m
    back (inr (inr (inr o))) = absurd (o.differs tt)
