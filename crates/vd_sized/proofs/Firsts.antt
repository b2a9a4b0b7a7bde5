-- The smallest place in a walk over sections.
use Rattle.std.proofs.Common.{◌≡◌, ℕ, ◌+◌, ◌<◌, ◌≤◌, min, List, [], ◌∷◌, ◌++◌, length, get_or, take, Option, Some, None, refl, sym, ap, ◌∙◌, subst, inl, inr, arith}
use Rattle.std.specs.Prelude.{slice_get, max}
use Rattle.std.specs.List.{All, Contains}
use Rattle.std.specs.Option.{option_and_then}
use Rattle.std.proofs.lemmas.Bool.{cases_lt}
use Rattle.std.proofs.lemmas.List.{take_more, take_all}
use Rattle.std.proofs.lemmas.List.Elements.{All-push, Contains-append_left, Contains-push, Contains-push_cases}
use Rattle.std.proofs.lemmas.Option.{none-some}
use Rattle.vd_heads.specs.declared.content.Content.{Content}
use Rattle.vd_heads.specs.declared.content.Content.TheVariants as content
use Rattle.vd_heads.specs.declared.content.HeadSection.{HeadSection}
use Rattle.vd_heads.specs.declared.content.Part.{Part}
use Rattle.vd_heads.specs.Declaration.{sections_in}
use Rattle.vd_heads.specs.Least.{IsLeastOrNone, IsPlaceOf, lesser}
use Rattle.vd_sized.specs.Sizes.{HasEnough}
use Rattle.vd_sized.proofs.Seeing.{slice_get_at, at_slice_get}

-- something is so of a section of a list, which stands at that place
pub record StandsAt (P : Content → Type 0) (hs : List HeadSection) (place : ℕ) : Type 0 where
  pub section : HeadSection
  pub stands : Contains hs section
  pub holds : P section.content
  pub place_is : place ≡ section.place

pub none_first : (P : Content → Type 0) → IsLeastOrNone (StandsAt P []) None
none_first P at f = absurd (omega (arith, f.stands.1))

module _ (P : Content → Type 0) (hs : List HeadSection) (i : ℕ) (h : HeadSection) (lt : i < length hs) (is : h ≡ get_or hs i h) where
  next : take (i + 1) hs ≡ take i hs ++ h ∷ []
  next = take_more hs i h lt ∙ ap (λ y. take i hs ++ y ∷ []) (sym is)

  earlier : (at : ℕ) → StandsAt P (take i hs) at → StandsAt P (take i hs ++ h ∷ []) at
  earlier at f = record { section = f.section; stands = Contains-append_left (take i hs) (h ∷ []) f.section f.stands; holds = f.holds; place_is = f.place_is }

  this : P h.content → StandsAt P (take i hs ++ h ∷ []) h.place
  this p = record { section = h; stands = Contains-push (take i hs) h; holds = p; place_is = refl }

  -- what stands among one more stands before, or is the one more
  either : {X : Type 0} (at : ℕ) → StandsAt P (take i hs ++ h ∷ []) at → (StandsAt P (take i hs) at → X) → (P h.content → at ≡ h.place → X) → X
  either at f before here = elim (Contains-push_cases (take i hs) h f.section f.stands) [
    | inl c ↦ before (record { section = f.section; stands = c; holds = f.holds; place_is = f.place_is })
    | inr e ↦ here (subst (λ x. P x.content) (sym e) f.holds) (f.place_is ∙ ap (λ x. x.place) (sym e))
  ]

  skipped : (o : Option ℕ) → (P h.content → ⊥) → IsLeastOrNone (StandsAt P (take i hs)) o → IsLeastOrNone (StandsAt P (take i hs ++ h ∷ [])) o
  skipped None n before = λ at f. either at f (before at) (λ p e. n p)
  skipped (Some place) n before = (earlier place before.0, λ at f. either at f (before.1 at) (λ p e. absurd (n p)))

  added : (o : Option ℕ) → P h.content → IsLeastOrNone (StandsAt P (take i hs)) o → IsLeastOrNone (StandsAt P (take i hs ++ h ∷ [])) (Some (lesser o h.place))
  added None p before = (this p, λ at f. either at f (λ g. absurd (before at g)) (λ q e. omega arith))
  added (Some place) p before = (
    elim (cases_lt place h.place) [
      | inl less ↦ subst (StandsAt P (take i hs ++ h ∷ [])) (lower less) (earlier place before.0)
      | inr more ↦ subst (StandsAt P (take i hs ++ h ∷ [])) (higher more) (this p)
    ],
    λ at f. either at f (λ g. below at (before.1 at g)) (λ q e. beyond at e),
  ) where
    lower : place < h.place → place ≡ min place h.place
    lower l = omega arith

    higher : h.place ≤ place → h.place ≡ min place h.place
    higher l = omega arith

    below : (at : ℕ) → place ≤ at → min place h.place ≤ at
    below at l = omega arith

    beyond : (at : ℕ) → at ≡ h.place → min place h.place ≤ at
    beyond at e = omega arith

  pub skip : (o p : Option ℕ) → (P h.content → ⊥) → p ≡ o → IsLeastOrNone (StandsAt P (take i hs)) o → IsLeastOrNone (StandsAt P (take (i + 1) hs)) p
  skip o p n e before = subst (λ l. IsLeastOrNone (StandsAt P l) p) (sym next) (subst (IsLeastOrNone (StandsAt P (take i hs ++ h ∷ []))) (sym e) (skipped o n before))

  pub add : (o p : Option ℕ) → P h.content → p ≡ Some (lesser o h.place) → IsLeastOrNone (StandsAt P (take i hs)) o → IsLeastOrNone (StandsAt P (take (i + 1) hs)) p
  add o p q e before = subst (λ l. IsLeastOrNone (StandsAt P l) p) (sym next) (subst (IsLeastOrNone (StandsAt P (take i hs ++ h ∷ []))) (sym e) (added o q before))

-- ---- all sections of the part

module _ (P : Content → Type 0) (parts : List Part) (own : ℕ) where
  in_sections : (p : Option Part) (number : ℕ) (h : HeadSection) → option_and_then (λ q. slice_get q.sections number) p ≡ Some h → Contains (sections_in p) h
  in_sections None number h e = absurd (none-some h e)
  in_sections (Some q) number h e = let at = slice_get_at q.sections number h e in (number, at.0, at.1)

  of_sections : (p : Option Part) (h : HeadSection) → Contains (sections_in p) h → (number : ℕ) × (option_and_then (λ q. slice_get q.sections number) p ≡ Some h)
  of_sections None h c = absurd (omega (arith, c.1))
  of_sections (Some q) h c = (c.0, at_slice_get q.sections c.0 h c.1 c.2)

  to_place : (at : ℕ) → StandsAt P (sections_in (slice_get parts own)) at → IsPlaceOf parts own P at
  to_place at f = let n = of_sections (slice_get parts own) f.section f.stands in record { number = n.0; section = f.section; stands = n.1; holds = f.holds; place_is = f.place_is }

  from_place : (at : ℕ) → IsPlaceOf parts own P at → StandsAt P (sections_in (slice_get parts own)) at
  from_place at f = record { section = f.section; stands = in_sections (slice_get parts own) f.number f.section f.stands; holds = f.holds; place_is = f.place_is }

  whole : (o : Option ℕ) → IsLeastOrNone (StandsAt P (sections_in (slice_get parts own))) o → IsLeastOrNone (IsPlaceOf parts own P) o
  whole None f = λ at g. f at (from_place at g)
  whole (Some place) f = (to_place place f.0, λ at g. f.1 at (from_place at g))

  pub first_of_all : (hs : List HeadSection) (i : ℕ) (o : Option ℕ) → hs ≡ sections_in (slice_get parts own) → length hs ≤ i → IsLeastOrNone (StandsAt P (take i hs)) o → IsLeastOrNone (IsPlaceOf parts own P) o
  first_of_all hs i o e le f = whole o (subst (λ l. IsLeastOrNone (StandsAt P l) o) (take_all i hs le ∙ e) f)

-- ---- the most initial values

has_more : (n m : ℕ) (c : Content) → n ≤ m → HasEnough n c → HasEnough m c
has_more n m (content.Global g values) le h = omega arith
has_more n m (content.Uses ms) le h = h
has_more n m (content.Exports ms) le h = h
has_more n m (content.Struct name fields) le h = h
has_more n m (content.Abstract name sorts twice) le h = h
has_more n m (content.Pred p twice) le h = h
has_more n m (content.Spec f twice) le h = h
has_more n m (content.Unread place) le h = h

pub enough_more : (hs : List HeadSection) (i : ℕ) (h : HeadSection) (values most next : ℕ) → i < length hs → h ≡ get_or hs i h → HasEnough values h.content → next ≡ max values most
    → All (λ x. HasEnough most x.content) (take i hs) → All (λ x. HasEnough next x.content) (take (i + 1) hs)
enough_more hs i h values most next lt is here e before =
    subst (All (λ x. HasEnough next x.content)) (sym (take_more hs i h lt ∙ ap (λ y. take i hs ++ y ∷ []) (sym is)))
    (All-push (λ x. HasEnough next x.content) (take i hs) h (λ k d l. has_more most next _ (omega arith) (before k d l)) (has_more values next h.content (omega arith) here))
