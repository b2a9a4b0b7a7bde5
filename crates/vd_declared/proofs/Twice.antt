-- The first declaration whose name another unit declares too is the first name that is declared twice.
use Rattle.std.proofs.Common.{◌≡◌, ◌<◌, ℕ, true, List, [], All, MatchOption, Option, None, Some, Bor, option_copied, slice_get, inl, inr, refl, sym, ◌∙◌, subst, arith}
use Rattle.std.proofs.lemmas.Bool.{cases_lt, cases_eq}
use Rattle.std.proofs.lemmas.Option.{get_or_from_slice_get, slice_get_within}
use Rattle.vd_heads.specs.declared.table.Space.{Space}
use Rattle.vd_heads.specs.Declaration.{Bytes}
use Rattle.vd_outline.specs.declared.outline.Outline.{Outline}
use Rattle.vd_declared.specs.declared.declared.Declaration.{Declaration}
use Rattle.vd_linkage.specs.Declaration.{Defines, IsBefore, IsDeclared, IsFirstTwice, IsTwice}
use Rattle.vd_linkage.specs.Form.{Entry, is_plain}
use Rattle.vd_declared.specs.Listed.{IsFirstShared, IsShared, NoneShared, UnitsDeclare}
use Rattle.vd_linkage.proofs.Lists.{some_same}
use Rattle.vd_declared.proofs.Listing.{Has, units_all, units_only, units_order, zero_add}
use Rattle.vd_linkage.proofs.Plain.{defines_nothing}

all_at : {X : Type 0} (P : X → Type 0) (xs : List X) (n : ℕ) (x : X) → All P xs → slice_get xs n ≡ Some x → P x
all_at P xs n x h e = subst P (get_or_from_slice_get xs n x x e) (h n x (slice_get_within xs n x e))

not_before : (k i l j : ℕ) → IsBefore k i l j → IsBefore l j k i → ⊥
not_before k i l j (inl p) (inl q) = omega (arith, p, q)
not_before k i l j (inl p) (inr q) = (let e : l ≡ k = q.0 in omega (arith, p, e))
not_before k i l j (inr p) (inl q) = (let e : k ≡ l = p.0 in omega (arith, q, e))
not_before k i l j (inr p) (inr q) = (let a : i < j = p.1 in let b : j < i = q.1 in omega (arith, a, b))

not_itself : (k i : ℕ) → IsBefore k i k i → ⊥
not_itself k i (inl p) = omega (arith, p)
not_itself k i (inr p) = (let a : i < i = p.1 in omega (arith, a))

module _ (texts : List Entry) (units : List Outline) (ds : List Declaration) (are : UnitsDeclare 0 units ds) (plain : All (λ o. is_plain o ≡ true) units) where
  declared_by : (n : ℕ) (d : Declaration) → slice_get ds n ≡ Some d → IsDeclared units d.space d.name.now d.unit d.section
  declared_by n d e =
      let u = units_only 0 units ds are n d e in
      record { outline = u.outline; one = u.one; outline_at = subst (λ x. slice_get units x ≡ Some u.outline) (sym (u.unit_is ∙ zero_add u.at)) u.outline_at; one_at = u.one_at; declares = u.declares }

  has : (s : Space) (name : Bytes) (k i : ℕ) → IsDeclared units s name k i → Has ds s name k i
  has s name k i d = subst (λ x. Has ds s name x i) (zero_add k) (units_all 0 units ds are k i d.outline d.one s name d.outline_at d.one_at d.declares)

  none_own : (s : Space) (name : Bytes) (k i : ℕ) (d : IsDeclared units s name k i) → Defines texts d.outline s name → ⊥
  none_own s name k i d f = defines_nothing texts d.outline s name (all_at (λ o. is_plain o ≡ true) units k d.outline plain d.outline_at) f

  two : (s : Space) (name : Bytes) (k i l j : ℕ) → k < l → IsDeclared units s name k i → IsDeclared units s name l j → IsTwice texts [] units s name
  two s name k i l j lt d e = record {
    first_text = k;
    first_section = i;
    second_text = l;
    second_section = j;
    first = d;
    second = e;
    order = inl lt;
    apart = inl lt;
    first_is_own = none_own s name k i d;
    second_is_own = none_own s name l j e;
  }

  -- the declaration is of this name
  named : (s : Space) (name : Bytes) (n : ℕ) (d : Declaration) → d.space ≡ s → d.name.now ≡ name → slice_get ds n ≡ Some d → IsDeclared units s name d.unit d.section
  named s name n d p q e = subst (λ x. IsDeclared units x name d.unit d.section) p (subst (λ x. IsDeclared units d.space x d.unit d.section) q (declared_by n d e))

  twice : (n : ℕ) (d : Declaration) → slice_get ds n ≡ Some d → IsShared ds d → IsTwice texts [] units d.space d.name.now
  twice n d e s =
      let x = declared_by n d e in
      let y = named d.space d.name.now s.place s.other s.same_space s.same_name s.at in
      elim (cases_lt d.unit s.other.unit) [
        | inl lt ↦ two d.space d.name.now d.unit d.section s.other.unit s.other.section lt x y
        | inr k ↦ elim (cases_lt s.other.unit d.unit) [
          | inl lt ↦ two d.space d.name.now s.other.unit s.other.section d.unit d.section lt y x
          | inr m ↦ absurd (s.apart (omega (arith, k, m)))
        ]
      ]

  no_text_below : (n : ℕ) → n < 0 → ⊥
  no_text_below n lt = omega (arith, lt)

  apart_texts : (s : Space) (name : Bytes) → (t : IsTwice texts [] units s name) → t.first_text < t.second_text
  apart_texts s name t = elim t.apart [ inl lt ↦ lt | inr lt ↦ absurd (no_text_below t.first_text lt) ]

  shared_by : (s : Space) (name : Bytes) (k i : ℕ) (d : Declaration) → d.space ≡ s → d.name.now ≡ name → (d.unit ≡ k → ⊥) → IsDeclared units s name k i → IsShared ds d
  shared_by s name k i d p q away x =
      let h = has s name k i x in
      record { place = h.place; other = h.one; at = h.at; same_space = h.of_space ∙ sym p; same_name = h.of_name ∙ sym q; apart = λ e. away (sym e ∙ h.of_unit) }

  shared : (s : Space) (name : Bytes) (d : Declaration) → d.space ≡ s → d.name.now ≡ name → IsTwice texts [] units s name → IsShared ds d
  shared s name d p q t =
      let lt = apart_texts s name t in
      elim (cases_eq d.unit t.first_text) [
        | inl e ↦ shared_by s name t.second_text t.second_section d p q (λ f. let a : d.unit ≡ t.first_text = e in let b : d.unit ≡ t.second_text = f in omega (arith, lt, a, b)) t.second
        | inr away ↦ shared_by s name t.first_text t.first_section d p q away t.first
      ]

  pub first_twice : (name : Bytes) → IsFirstShared ds name → IsFirstTwice texts [] units name
  first_twice name f = record {
    space = f.one.space;
    text = f.one.unit;
    place = f.one.section;
    declared = named f.one.space name f.place f.one refl f.named f.at;
    twice = subst (λ x. IsTwice texts [] units f.one.space x) f.named (twice f.place f.one f.at f.shared);
    before = λ k i s other lt d t. (
        let h = has s other k i d in
        let before : IsBefore h.one.unit h.one.section f.one.unit f.one.section = subst (λ x. IsBefore x h.one.section f.one.unit f.one.section) (sym h.of_unit) (subst (λ x. IsBefore k x f.one.unit f.one.section) (sym h.of_section) lt) in
        let sh = shared s other h.one h.of_space h.of_name t in
        elim (cases_lt h.place f.place) [
          | inl below ↦ f.before h.place h.one below h.at sh
          | inr m ↦ elim (cases_lt f.place h.place) [
            | inl above ↦ not_before f.one.unit f.one.section h.one.unit h.one.section (units_order 0 units ds are f.place h.place f.one h.one above f.at h.at) before
            | inr n ↦
                let e : h.place ≡ f.place = omega (arith, m, n) in
                let same : h.one ≡ f.one = some_same h.one f.one (sym (subst (λ x. slice_get ds x ≡ Some h.one) e h.at) ∙ f.at) in
                not_itself f.one.unit f.one.section (subst (λ x. IsBefore x.unit x.section f.one.unit f.one.section) same before)
          ]
        ]);
  }

  pub none_twice : NoneShared ds → (name : Bytes) → IsFirstTwice texts [] units name → ⊥
  none_twice none name f =
      let h = has f.space name f.text f.place f.declared in
      none h.place h.one h.at (shared f.space name h.one h.of_space h.of_name f.twice)

-- what is told of the first shared declaration, for each snapshot of plain units
pub twice_told : (units items : List Outline) (ds seen : List Declaration) (shared : Option (Bor Bytes)) (told : Option Bytes) → items ≡ units → UnitsDeclare 0 items ds → seen ≡ ds → MatchOption shared (NoneShared seen) (λ name. IsFirstShared seen name.now)
    → told ≡ option_copied shared → (texts : List Entry) → All (λ o. is_plain o ≡ true) units → MatchOption told ((name : Bytes) → IsFirstTwice texts [] units name → ⊥) (λ name. IsFirstTwice texts [] units name)
twice_told units items ds seen None None same are all none e texts plain = none_twice texts units ds (subst (λ os. UnitsDeclare 0 os ds) same are) plain (subst NoneShared all none)
twice_told units items ds seen None (Some name) same are all none e texts plain = absurd (cc)
twice_told units items ds seen (Some shared) None same are all first e texts plain = absurd (cc)
twice_told units items ds seen (Some shared) (Some name) same are all first e texts plain =
    first_twice texts units ds (subst (λ os. UnitsDeclare 0 os ds) same are) plain name (subst (IsFirstShared ds) (sym (some_same name shared.now e)) (subst (λ xs. IsFirstShared xs shared.now) all first))
