-- Initial values that do not fit, by the first cells.
use Rattle.std.proofs.Common.{◌≡◌, ℕ, zero, suc, ◌<◌, ◌≤◌, Bool, true, false, min, List, [], ◌∷◌, length, take, map, refl, sym, ap, ◌∙◌, subst, inl, inr, arith, IsTrue, Bor}
use Rattle.std.specs.Prelude.{◌↔◌}
use Rattle.std.proofs.lemmas.List.{length-map, length-take}
use Rattle.vd_base.specs.declared.ctype.CType.{CType, CType-F, out-CType, out-roll-CType}
use Rattle.vd_base.specs.declared.ctype.CType.TheOpen as layer
use Rattle.vd_base.specs.declared.ctype.CType.TheVariants as typ
use Rattle.vd_base.specs.declared.ctype.CType.TheVariants.{rolls-Pointer}
use Rattle.vd_base.specs.declared.ctype.Field.{Field}
use Rattle.vd_clight.specs.declared.program.Init.{Init}
use Rattle.vd_heads.specs.declared.content.Content.{Content}
use Rattle.vd_heads.specs.declared.content.Content.TheVariants as content
use Rattle.vd_heads.specs.declared.content.Part.{Part}
use Rattle.vd_heads.specs.declared.table.Space.TheVariants as space
use Rattle.vd_heads.specs.Closure.{IsUnambiguous, Means}
use Rattle.vd_sized.specs.Cells.{HasCells}
use Rattle.vd_sized.specs.Counts.{CountsSome}
use Rattle.vd_sized.specs.Initial.{AreUnfit, HasMisfits, IsOther, IsOtherPointer}
use Rattle.vd_sized.specs.Initial as initial
use Rattle.vd_sized.specs.declared.leaves.Counted.{Counted}
use Rattle.vd_sized.proofs.Derivations.{same_cells}

no : false ≡ true → ⊥
no e = cc

-- ---- addresses

out_Pointer : (to : CType) → out-CType (typ.Pointer to) ≡ layer.Pointer to
out_Pointer to = ap out-CType (sym (rolls-Pointer to)) ∙ out-roll-CType (layer.Pointer to)

layer_same_pointer : (x : CType-F CType) (a b : CType) → x ≡ layer.Pointer a → x ≡ layer.Pointer b → a ≡ b
layer_same_pointer x a b e f = cc

same_pointer : (a b : CType) → typ.Pointer a ≡ typ.Pointer b → a ≡ b
same_pointer a b e = layer_same_pointer (out-CType (typ.Pointer a)) a b (out_Pointer a) (ap out-CType e ∙ out_Pointer b)

module _ (parts : List Part) (own : ℕ) (single : IsUnambiguous parts own) (name : List ℕ) (to : CType) where
  other_from : (c : Content) → Means parts own space.Global name c → IsOther c to → IsOtherPointer parts own name (typ.Pointer to)
  other_from (content.Global g values) m h = record { global = g; values = values; to = to; means = m; pointer = refl; differs = h }
  other_from (content.Uses ms) m h = absurd h
  other_from (content.Exports ms) m h = absurd h
  other_from (content.Struct n fields) m h = absurd h
  other_from (content.Abstract n sorts twice) m h = absurd h
  other_from (content.Pred p twice) m h = absurd h
  other_from (content.Spec f twice) m h = absurd h
  other_from (content.Unread place) m h = absurd h

  pub other_by : (c : Content) (b : Bool) → Means parts own space.Global name c → IsTrue b ↔ IsOther c to → IsTrue b ↔ IsOtherPointer parts own name (typ.Pointer to)
  other_by c b m h = (
    λ t. other_from c m (h.0 t),
    λ w. h.1 (subst (λ x. IsOther x to) (single space.Global name (content.Global w.global w.values) c w.means m) (subst (IsOther (content.Global w.global w.values)) (sym (same_pointer to w.to w.pointer)) w.differs)),
  )

  pub other_nowhere : ((c : Content) → Means parts own space.Global name c → ⊥) → IsTrue false ↔ IsOtherPointer parts own name (typ.Pointer to)
  other_nowhere none = (λ t. absurd (no t), λ w. absurd (none (content.Global w.global w.values) w.means))

-- ---- the first cells are enough

module _ (parts : List Part) (own : ℕ) where
  up : (n : ℕ) (vs : List Init) (ts : List CType) → AreUnfit parts own vs (take n ts) → AreUnfit parts own vs ts
  up zero vs ts h = elim h [ ]
  up (suc n) vs [] h = elim h [ ]
  up (suc n) [] (t ∷ ts) h = elim h [ ]
  up (suc n) (v ∷ vs) (t ∷ ts) (initial.here h) = initial.here h
  up (suc n) (v ∷ vs) (t ∷ ts) (initial.there h) = initial.there (up n vs ts h)

  down : (n : ℕ) (vs : List Init) (ts : List CType) → length vs ≤ n → AreUnfit parts own vs ts → AreUnfit parts own vs (take n ts)
  down zero [] ts le h = elim h [ ]
  down zero (v ∷ vs) ts le h = absurd (omega arith)
  down (suc n) [] ts le h = elim h [ ]
  down (suc n) (v ∷ vs) [] le h = elim h [ ]
  down (suc n) (v ∷ vs) (t ∷ ts) le (initial.here h) = initial.here h
  down (suc n) (v ∷ vs) (t ∷ ts) le (initial.there h) = initial.there (down n vs ts (omega arith) h)

  module _ (g : Field) (values : List Init) (most : ℕ) (c : Counted) (h : CountsSome most (HasCells parts own g.typ) c) (le : length values ≤ most) where
    abbrev firsts : List CType
    firsts = map (λ (t : Bor CType). t.now) c.first

    long : length c.first ≡ min most (length h.cells)
    long = sym (length-map c.first (λ (t : Bor CType). t.now)) ∙ (ap length h.counts.first ∙ length-take most h.cells)

    pub too_many : length c.first < length values → HasMisfits parts own g values
    too_many lt = record { cells = h.cells; are = h.have; misfit = inl (omega (arith, long)) }

    pub some_unfit : AreUnfit parts own values firsts → HasMisfits parts own g values
    some_unfit u = record { cells = h.cells; are = h.have; misfit = inr (up most values h.cells (subst (AreUnfit parts own values) h.counts.first u)) }

    pub all_fit : IsUnambiguous parts own → length values ≤ length c.first → (AreUnfit parts own values firsts → ⊥) → HasMisfits parts own g values → ⊥
    all_fit single enough fit w =
        let same : w.cells ≡ h.cells = same_cells parts own single w.are h.have in
        elim w.misfit [
          | inl lt ↦ omega (arith, long, lt, ap length same)
          | inr u ↦ fit (subst (AreUnfit parts own values) (sym h.counts.first) (down most values h.cells le (subst (AreUnfit parts own values) same u)))
        ]

    pub misfit_by : IsUnambiguous parts own → (b : Bool) → length values ≤ length c.first → IsTrue b ↔ AreUnfit parts own values firsts → IsTrue b ↔ HasMisfits parts own g values
    misfit_by single true enough k = (λ t. some_unfit (k.0 t), λ w. refl)
    misfit_by single false enough k = (λ t. absurd (no t), λ w. absurd (all_fit single enough (λ u. no (k.1 u)) w))
