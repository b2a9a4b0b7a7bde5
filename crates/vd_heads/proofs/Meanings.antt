-- What a part sees of a name, and what the name means to it.
use Rattle.std.proofs.Common.{◌≡◌, ◌↔◌, ◌==◌, ℕ, zero, suc, ◌<◌, Bool, true, false, List, [], ◌∷◌, length, Option, None, Some, inl, inr, refl, ap, sym, ◌∙◌, subst, arith, eq-eqb}
use Rattle.std.specs.List.{slice_get, find}
use Rattle.std.specs.Option.{option_map, is_some}
use Rattle.std.proofs.lemmas.Bool.{cases_eq, cases_lt, false≢true}
use Rattle.std.proofs.lemmas.Bool.Decides.{Decides-eqb}
use Rattle.vd_heads.specs.declared.content.Content.{Content}
use Rattle.vd_heads.specs.declared.content.HeadSection.{HeadSection}
use Rattle.vd_heads.specs.declared.content.Part.{Part}
use Rattle.vd_heads.specs.declared.table.Space.{Space}
use Rattle.vd_heads.specs.declared.table.Spot.{Spot}
use Rattle.vd_heads.specs.Closure.{Reaches, Sees, Knows, Means, MeansOption, IsFirstOwn}
use Rattle.vd_heads.specs.Declaration.{Bytes, IsSection, IsDeclared, section_at}
use Rattle.vd_heads.specs.Views.{is_marked, spots_of}
use Rattle.vd_heads.proofs.Places.{found_at, found_none, spot_declared, declared_spot, spots_ordered}

abbrev IsClosure : List Part → ℕ → List Bool → Type 0
IsClosure parts own marks = (k : ℕ) → (is_marked marks k ≡ true) ↔ ((k < length parts) × Reaches parts own k)

some_section : {x y : HeadSection} → Some x ≡ Some y → x ≡ y
some_section e = cc

some_spot : {x y : Spot} → Some x ≡ Some y → x ≡ y
some_spot e = cc

part_within : (parts : List Part) (k i : ℕ) (h : HeadSection) → IsSection parts k i h → k < length parts
part_within [] k i h e = cc
part_within (p ∷ parts) zero i h e = omega arith
part_within (p ∷ parts) (suc k) i h e = let r = part_within parts k i h e in omega arith

-- ---- what is seen

-- the place of what is seen is among the places, and passes
seen_at : (parts : List Part) (own : ℕ) (s : Space) (name : Bytes) (marks : List Bool) → IsClosure parts own marks → (k i : ℕ) (c : Content) → Sees parts own s name k i c
    → (m : ℕ) × (y : Spot) × (slice_get (spots_of parts s name) m ≡ Some y) × (is_marked marks y.part ≡ true)
seen_at parts own s name marks is k i c sees =
    let r = declared_spot parts s name k i c sees.declared in
    (r.0, r.1, r.2, ap (is_marked marks) r.3 ∙ (is k).1 (part_within parts k i sees.declared.section sees.declared.stands, sees.reached))

sees_at : (parts : List Part) (own : ℕ) (s : Space) (name : Bytes) (marks : List Bool) → IsClosure parts own marks → (x : Spot) → find (λ spot. is_marked marks spot.part) (spots_of parts s name) ≡ Some x
    → (c : Content) × Sees parts own s name x.part x.section c
sees_at parts own s name marks is x e =
    let f = found_at (λ spot. is_marked marks spot.part) (spots_of parts s name) x e in
    let d = spot_declared parts s name f.0 x f.1 in
    (d.0, record { reached = ((is x.part).0 f.2).1; declared = d.1 })

pub knows_seen : (parts : List Part) (own : ℕ) (s : Space) (name : Bytes) (marks : List Bool) → IsClosure parts own marks
    → (is_some (find (λ spot. is_marked marks spot.part) (spots_of parts s name)) ≡ true) ↔ Knows parts own s name
knows_seen parts own s name marks is = (to (find p spots) refl, from (find p spots) refl) where
  p : Spot → Bool
  p = λ spot. is_marked marks spot.part

  spots : List Spot
  spots = spots_of parts s name

  to : (o : Option Spot) → find p spots ≡ o → is_some o ≡ true → Knows parts own s name
  to None e f = cc
  to (Some x) e f = let r = sees_at parts own s name marks is x e in (x.part, x.section, r.0, r.1)

  from : (o : Option Spot) → find p spots ≡ o → Knows parts own s name → is_some o ≡ true
  from None e k = absurd (let r = seen_at parts own s name marks is k.0 k.1 k.2 k.3 in false≢true (sym (found_none p spots e r.0 r.1 r.2) ∙ r.3))
  from (Some x) e k = refl

-- ---- what is meant

content_is : (parts : List Part) (s : Space) (name : Bytes) (k i : ℕ) (c : Content) → IsDeclared parts s name k i c → option_map (λ h. h.content) (section_at parts k i) ≡ Some c
content_is parts s name k i c d = ap (option_map (λ h. h.content)) d.stands ∙ ap Some d.says

first_own : (parts : List Part) (own : ℕ) (s : Space) (name : Bytes) (x : Spot) → find (λ spot. spot.part == own) (spots_of parts s name) ≡ Some x → (x.part ≡ own) × IsFirstOwn parts own s name x.section
first_own parts own s name x e = (at, first) where
  spots : List Spot
  spots = spots_of parts s name

  f : (j : ℕ) × (slice_get spots j ≡ Some x) × ((x.part == own) ≡ true) × ((m : ℕ) (y : Spot) → m < j → slice_get spots m ≡ Some y → (y.part == own) ≡ false)
  f = found_at (λ spot. spot.part == own) spots x e

  at : x.part ≡ own
  at = (Decides-eqb x.part own).0 f.2

  first : (j : ℕ) (c : Content) → j < x.section → IsDeclared parts s name own j c → ⊥
  first j c below d = go (declared_spot parts s name own j c d) where
    go : (m : ℕ) × (y : Spot) × (slice_get spots m ≡ Some y) × (y.part ≡ own) × (y.section ≡ j) → ⊥
    go r = elim (cases_eq r.0 f.0) [
      | inl same ↦ (let z : x.section ≡ r.1.section = ap (λ w. w.section) (some_spot (sym f.1 ∙ (ap (slice_get spots) (sym same) ∙ r.2))) in let q = r.4 in omega (arith, z, q, below))
      | inr other ↦ side (r.0) r.1 r.2 r.3 r.4 other
    ] where
      side : (m : ℕ) (y : Spot) → slice_get spots m ≡ Some y → y.part ≡ own → y.section ≡ j → (m ≡ f.0 → ⊥) → ⊥
      side m y there part section other = elim (cases_lt m f.0) [
        | inl before ↦ false≢true (sym (f.3 m y before there) ∙ eq-eqb y.part own part)
        | inr not ↦ (let z = spots_ordered parts s name f.0 m x y f.1 there (omega arith) (at ∙ sym part) in omega (arith, z, section, below))
      ]

none_own : (parts : List Part) (own : ℕ) (s : Space) (name : Bytes) → find (λ spot. spot.part == own) (spots_of parts s name) ≡ None → (i : ℕ) (d : Content) → IsDeclared parts s name own i d → ⊥
none_own parts own s name e i d declared =
    let r = declared_spot parts s name own i d declared in
    false≢true (sym (found_none (λ spot. spot.part == own) (spots_of parts s name) e r.0 r.1 r.2) ∙ eq-eqb r.1.part own r.3)

means_some : (parts : List Part) (own : ℕ) (s : Space) (name : Bytes) (o : Option Content) (c : Content) → o ≡ Some c → Means parts own s name c → MeansOption parts own s name o
means_some parts own s name o c e m = let P : Option Content → Type 0 = λ x. MeansOption parts own s name x in subst P (sym e) m

pub means_own : (parts : List Part) (own : ℕ) (s : Space) (name : Bytes) (x : Spot) → find (λ spot. spot.part == own) (spots_of parts s name) ≡ Some x → (o : Option Content)
    → o ≡ option_map (λ h. h.content) (section_at parts x.part x.section) → MeansOption parts own s name o
means_own parts own s name x e o is =
    let f = found_at (λ spot. spot.part == own) (spots_of parts s name) x e in
    let d = spot_declared parts s name f.0 x f.1 in
    let first = first_own parts own s name x e in
    let P : ℕ → Type 0 = λ k. IsDeclared parts s name k x.section d.0 in
    means_some parts own s name o d.0 (is ∙ content_is parts s name x.part x.section d.0 d.1) (inl (x.section, subst P first.0 d.1, first.1))

pub means_seen : (parts : List Part) (own : ℕ) (s : Space) (name : Bytes) (marks : List Bool) → IsClosure parts own marks → find (λ spot. spot.part == own) (spots_of parts s name) ≡ None → (x : Spot)
    → find (λ spot. is_marked marks spot.part) (spots_of parts s name) ≡ Some x → (o : Option Content) → o ≡ option_map (λ h. h.content) (section_at parts x.part x.section) → MeansOption parts own s name o
means_seen parts own s name marks is none x e o here =
    let r = sees_at parts own s name marks is x e in
    means_some parts own s name o r.0 (here ∙ content_is parts s name x.part x.section r.0 r.1.declared) (inr (none_own parts own s name none, (x.part, x.section, r.1)))

pub means_none : (parts : List Part) (own : ℕ) (s : Space) (name : Bytes) (marks : List Bool) → IsClosure parts own marks → find (λ spot. spot.part == own) (spots_of parts s name) ≡ None
    → find (λ spot. is_marked marks spot.part) (spots_of parts s name) ≡ None → MeansOption parts own s name None
means_none parts own s name marks is none unseen c means = elim means [
  | inl m ↦ none_own parts own s name none m.0 c m.1
  | inr m ↦ (let r = seen_at parts own s name marks is m.1.0 m.1.1 c m.1.2 in false≢true (sym (found_none (λ spot. is_marked marks spot.part) (spots_of parts s name) unseen r.0 r.1 r.2) ∙ r.3))
]
