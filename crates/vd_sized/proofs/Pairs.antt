-- Two lists that are walked together.
use Rattle.std.proofs.Common.{◌≡◌, ℕ, zero, suc, Bor, Some, None, ◌+◌, ◌<◌, ◌≤◌, List, [], ◌∷◌, length, get_or, drop, map, refl, sym, ap, ◌∙◌, subst, inl, inr, ◌⊎◌, arith}
use Rattle.std.specs.Prelude.{◌↔◌, slice_get}
use Rattle.std.proofs.lemmas.List.{drop_more, drop_all, get_or-map, length-map}
use Rattle.std.proofs.lemmas.Option.{none-some}
use Rattle.vd_base.specs.declared.ctype.CType.{CType}
use Rattle.vd_base.specs.declared.ctype.Field.{Field}
use Rattle.vd_clight.specs.declared.program.Init.{Init}
use Rattle.vd_heads.specs.declared.content.Part.{Part}
use Rattle.vd_sized.specs.Agreement.{SameTypes}
use Rattle.vd_sized.specs.Initial.{AreUnfit, IsUnfit}
use Rattle.vd_sized.specs.Initial as initial
use Rattle.vd_sized.proofs.Seeing.{slice_get_at}

-- the first of what is left
pub left : {A : Type 0} (xs : List A) (i : ℕ) (x : A) → i < length xs → x ≡ get_or xs i x → drop i xs ≡ x ∷ drop (i + 1) xs
left xs i x lt is = drop_more xs i x lt ∙ ap (λ y. y ∷ drop (i + 1) xs) (sym is)

both : {A B : Type 0} (R : List A → List B → Type 0) (xs ys : List A) (us vs : List B) → xs ≡ ys → us ≡ vs → R xs us → R ys vs
both R xs ys us vs e f r = subst (R ys) f (subst (λ x. R x us) e r)

-- ---- types of fields

cons_types : (f g : Field) (fs gs : List Field) → f.typ ≡ g.typ → SameTypes fs gs → SameTypes (f ∷ fs) (g ∷ gs)
cons_types f g fs gs e h = cc

head_types : (f g : Field) (fs gs : List Field) → SameTypes (f ∷ fs) (g ∷ gs) → (f.typ ≡ g.typ) × SameTypes fs gs
head_types f g fs gs h = (cc, cc)

no_types : (f : Field) (fs : List Field) → SameTypes (f ∷ fs) [] → ⊥
no_types f fs h = cc

no_types_left : (g : Field) (gs : List Field) → SameTypes [] (g ∷ gs) → ⊥
no_types_left g gs h = cc

pub types_end : (gs : List Field) → SameTypes [] gs → gs ≡ []
types_end [] h = refl
types_end (g ∷ gs) h = absurd (no_types_left g gs h)

module _ (fs gs rest : List Field) (i : ℕ) (f : Field) (lt : i < length fs) (is : f ≡ get_or fs i f) (so_far : SameTypes fs gs ↔ SameTypes (drop i fs) rest) where
  pub types_on : (g : Field) (others : List Field) → rest ≡ g ∷ others → f.typ ≡ g.typ → SameTypes fs gs ↔ SameTypes (drop (i + 1) fs) others
  types_on g others e same = (
    λ h. (head_types f g (drop (i + 1) fs) others (both SameTypes _ _ _ _ (left fs i f lt is) e (so_far.0 h))).1,
    λ h. so_far.1 (both SameTypes _ _ _ _ (sym (left fs i f lt is)) (sym e) (cons_types f g (drop (i + 1) fs) others same h)),
  )

  pub types_differ : (g : Field) (others : List Field) → rest ≡ g ∷ others → (f.typ ≡ g.typ → ⊥) → SameTypes fs gs → ⊥
  types_differ g others e differ h = differ (head_types f g (drop (i + 1) fs) others (both SameTypes _ _ _ _ (left fs i f lt is) e (so_far.0 h))).0

  pub types_missing : rest ≡ [] → SameTypes fs gs → ⊥
  types_missing e h = no_types f (drop (i + 1) fs) (both SameTypes _ _ _ _ (left fs i f lt is) e (so_far.0 h))

-- ---- values and cells

module _ (parts : List Part) (own : ℕ) where
  abbrev U : List Init → List CType → Type 0
  U = AreUnfit parts own

  unfit_head : (v : Init) (vs : List Init) (t : CType) (ts : List CType) → U (v ∷ vs) (t ∷ ts) → IsUnfit parts own v t ⊎ U vs ts
  unfit_head v vs t ts (initial.here h) = inl h
  unfit_head v vs t ts (initial.there h) = inr h

  pub no_cells_left : (vs : List Init) → U vs [] → ⊥
  no_cells_left vs h = elim h [ ]

  pub no_values_left : (ts : List CType) → U [] ts → ⊥
  no_values_left ts h = elim h [ ]

  module _ (vs : List Init) (ts rest : List CType) (i : ℕ) (v : Init) (lt : i < length vs) (is : v ≡ get_or vs i v) (so_far : U vs ts ↔ U (drop i vs) rest) where
    pub unfit_here : (t : CType) (others : List CType) → rest ≡ t ∷ others → IsUnfit parts own v t → U vs ts
    unfit_here t others e h = so_far.1 (both U _ _ _ _ (sym (left vs i v lt is)) (sym e) (initial.here h))

    pub unfit_on : (t : CType) (others : List CType) → rest ≡ t ∷ others → (IsUnfit parts own v t → ⊥) → U vs ts ↔ U (drop (i + 1) vs) others
    unfit_on t others e fit = (
      λ h. elim (unfit_head v (drop (i + 1) vs) t others (both U _ _ _ _ (left vs i v lt is) e (so_far.0 h))) [ inl here ↦ absurd (fit here) | inr later ↦ later ],
      λ h. so_far.1 (both U _ _ _ _ (sym (left vs i v lt is)) (sym e) (initial.there h)),
    )

    pub unfit_nowhere : rest ≡ [] → U vs ts → ⊥
    unfit_nowhere e h = no_cells_left (drop i vs) (subst (U (drop i vs)) e (so_far.0 h))

-- ---- the cells that are left

pub cell_left : (cells : List (Bor CType)) (i : ℕ) (cell : Bor CType) → Some cell ≡ slice_get cells i → drop i (map (λ (t : Bor CType). t.now) cells) ≡ cell.now ∷ drop (i + 1) (map (λ (t : Bor CType). t.now) cells)
cell_left cells i cell e =
    let at = slice_get_at cells i cell (sym e) in
    let now : Bor CType → CType = λ t. t.now in
    left (map now cells) i cell.now (omega (arith, at.0, length-map cells now)) (sym (get_or-map now cells i cell cell.now at.0 ∙ ap now at.1))

past : {X : Type 0} (xs : List X) (i : ℕ) → None ≡ slice_get xs i → length xs ≤ i
past [] i e = omega arith
past (x ∷ xs) zero e = absurd (none-some x e)
past (x ∷ xs) (suc i) e = let le = past xs i e in omega (arith, le)

pub cells_missing : (cells : List (Bor CType)) (i : ℕ) → None ≡ slice_get cells i → drop i (map (λ (t : Bor CType). t.now) cells) ≡ []
cells_missing cells i e = let le = past cells i e in drop_all i (map (λ (t : Bor CType). t.now) cells) (omega (arith, le, length-map cells (λ (t : Bor CType). t.now)))

pub no_unfit_left : (parts : List Part) (own : ℕ) (vs : List Init) (ts rest : List CType) (i : ℕ) → length vs ≤ i → AreUnfit parts own vs ts ↔ AreUnfit parts own (drop i vs) rest → AreUnfit parts own vs ts → ⊥
no_unfit_left parts own vs ts rest i le h u = no_values_left parts own rest (subst (λ l. AreUnfit parts own l rest) (drop_all i vs le) (h.0 u))
