-- Where no name is declared twice, a name means one thing at most.
use Rattle.std.proofs.Common.{◌≡◌, ℕ, List, Some, inl, inr, refl, ap, sym, ◌∙◌, subst, arith}
use Rattle.std.proofs.lemmas.Bool.{cases_eq, cases_lt}
use Rattle.vd_heads.specs.declared.content.Content.{Content}
use Rattle.vd_heads.specs.declared.content.HeadSection.{HeadSection}
use Rattle.vd_heads.specs.declared.content.Part.{Part}
use Rattle.vd_heads.specs.declared.table.Space.{Space}
use Rattle.vd_heads.specs.Closure.{IsFirstOwn, IsUnambiguous, Means, Sees}
use Rattle.vd_heads.specs.Declaration.{Bytes, IsDeclared, section_at}
use Rattle.vd_known.specs.Twice.{FailsTwice, IsDefinition, IsTwofold, last_place, own_sections}

some_section : {x y : HeadSection} → Some x ≡ Some y → x ≡ y
some_section e = cc

module _ (parts : List Part) (own : ℕ) where
  same_place : (s : Space) (name : Bytes) (k i n j : ℕ) (c d : Content) → k ≡ n → i ≡ j → IsDeclared parts s name k i c → IsDeclared parts s name n j d → c ≡ d
  same_place s name k i n j c d p q x y =
      let at : section_at parts k i ≡ section_at parts n j = ap (λ m. section_at parts m i) p ∙ ap (section_at parts n) q in
      sym x.says ∙ (ap (λ h. h.content) (some_section (sym x.stands ∙ (at ∙ y.stands))) ∙ y.says)

  one_first : (s : Space) (name : Bytes) (i j : ℕ) (c d : Content) → IsDeclared parts s name own i c → IsFirstOwn parts own s name i → IsDeclared parts s name own j d → IsFirstOwn parts own s name j → c ≡ d
  one_first s name i j c d x first y other = elim (cases_lt i j) [
    | inl below ↦ absurd (other i c below x)
    | inr k ↦ elim (cases_lt j i) [
      | inl above ↦ absurd (first j d above y)
      | inr m ↦ same_place s name own i own j c d refl (omega (arith, k, m)) x y
    ]
  ]

  undefined : (s : Space) (name : Bytes) → ((i : ℕ) (d : Content) → IsDeclared parts s name own i d → ⊥) → (k i n : ℕ) (c d : Content) → IsDeclared parts s name k i c → IsDefinition parts own k c n d → ⊥
  undefined s name none k i n c d x def = none i c (subst (λ m. IsDeclared parts s name m i c) def.own_is x)

  twofold : (s : Space) (name : Bytes) → ((i : ℕ) (d : Content) → IsDeclared parts s name own i d → ⊥) → (k i n j : ℕ) (c d : Content) → Sees parts own s name k i c → Sees parts own s name n j d → (k ≡ n → i ≡ j → ⊥) → IsTwofold parts own s name
  twofold s name none k i n j c d x y apart = record {
    first_part = k;
    first_section = i;
    first_says = c;
    other_part = n;
    other_section = j;
    other_says = d;
    first = x;
    other = y;
    are_two = apart;
    first_defines_not = undefined s name none k i n c d x.declared;
    other_defines_not = undefined s name none n j k d c y.declared;
  }

  module _ (once : (place : ℕ) → FailsTwice parts own place → ⊥) where
    not_twofold : (s : Space) (name : Bytes) → IsTwofold parts own s name → ⊥
    not_twofold s name two = once (last_place s name 0 (own_sections parts own)) (inl (s, name, (two, refl)))

    one_seen : (s : Space) (name : Bytes) → ((i : ℕ) (d : Content) → IsDeclared parts s name own i d → ⊥) → (k i n j : ℕ) (c d : Content) → Sees parts own s name k i c → Sees parts own s name n j d → c ≡ d
    one_seen s name none k i n j c d x y = elim (cases_eq k n) [
      | inl p ↦ elim (cases_eq i j) [
        | inl q ↦ same_place s name k i n j c d p q x.declared y.declared
        | inr other ↦ absurd (not_twofold s name (twofold s name none k i n j c d x y (λ e f. other f)))
      ]
      | inr other ↦ absurd (not_twofold s name (twofold s name none k i n j c d x y (λ e f. other e)))
    ]

    one_meaning : (s : Space) (name : Bytes) (c d : Content) → Means parts own s name c → Means parts own s name d → c ≡ d
    one_meaning s name c d (inl a) (inl b) = one_first s name a.0 b.0 c d a.1 a.2 b.1 b.2
    one_meaning s name c d (inl a) (inr b) = absurd (b.0 a.0 c a.1)
    one_meaning s name c d (inr a) (inl b) = absurd (a.0 b.0 d b.1)
    one_meaning s name c d (inr a) (inr b) = one_seen s name a.0 a.1.0 a.1.1 b.1.0 b.1.1 c d a.1.2 b.1.2

    pub is_unambiguous : IsUnambiguous parts own
    is_unambiguous = one_meaning
