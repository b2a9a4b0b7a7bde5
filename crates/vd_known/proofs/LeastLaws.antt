-- The smallest place at which something is so, one item after the other.
use Rattle.std.proofs.Common.{◌≡◌, ℕ, ◌+◌, ◌<◌, ◌≤◌, ◌⊎◌, min, List, length, get_or, Option, None, Some, inl, inr, refl, sym, ◌∙◌, ap, subst, arith}
use Rattle.std.proofs.lemmas.Bool.{cases_lt}
use Rattle.std.proofs.lemmas.Option.{same_Some, slice_get-get_or, slice_get_read, slice_get_within}
use Rattle.std.specs.List.{slice_get}
use Rattle.std.specs.Option.{option_and_then}
use Rattle.vd_heads.specs.declared.content.Content.{Content}
use Rattle.vd_heads.specs.declared.content.HeadSection.{HeadSection}
use Rattle.vd_heads.specs.declared.content.Part.{Part}
use Rattle.vd_heads.specs.Declaration.{sections_in}
use Rattle.vd_heads.specs.Least.{IsLeastOrNone, IsPlaceOf, lesser}
use Rattle.vd_known.specs.Clash.{least_joined}

-- the same places
pub least_same : {F G : ℕ → Type 0} (o : Option ℕ) → ((at : ℕ) → F at → G at) → ((at : ℕ) → G at → F at) → IsLeastOrNone F o → IsLeastOrNone G o
least_same None to from h = λ at g. h at (from at g)
least_same (Some place) to from h = (to place h.0, λ at g. h.1 at (from at g))

min_cases : (p x : ℕ) → ((min p x ≡ p) × (p ≤ x)) ⊎ ((min p x ≡ x) × (x ≤ p))
min_cases p x = elim (cases_lt x p) [ inl h ↦ inr (omega (arith, h), omega (arith, h)) | inr h ↦ inl (omega (arith, h), h) ]

-- two places, of those that there are
pub least_both : (F G : ℕ → Type 0) (o r : Option ℕ) → IsLeastOrNone F o → IsLeastOrNone G r → IsLeastOrNone (λ at. F at ⊎ G at) (least_joined o r)
least_both F G None None f g = λ at h. elim h [ inl a ↦ f at a | inr b ↦ g at b ]
least_both F G (Some p) None f g = (inl f.0, λ at h. elim h [ inl a ↦ f.1 at a | inr b ↦ absurd (g at b) ])
least_both F G None (Some x) f g = (inr g.0, λ at h. elim h [ inl a ↦ absurd (f at a) | inr b ↦ g.1 at b ])
least_both F G (Some p) (Some x) f g = elim (min_cases p x) [
  | inl m ↦ (inl (subst F (sym m.0) f.0), λ at h. elim h [ inl a ↦ (let k : p ≤ at = f.1 at a in let e = m.0 in omega arith) | inr b ↦ (let k : x ≤ at = g.1 at b in let e = m.0 in let j = m.1 in omega arith) ])
  | inr m ↦ (inr (subst G (sym m.0) g.0), λ at h. elim h [ inl a ↦ (let k : p ≤ at = f.1 at a in let e = m.0 in let j = m.1 in omega arith) | inr b ↦ (let k : x ≤ at = g.1 at b in let e = m.0 in omega arith) ])
]

-- ---- items of a list

-- One of the first n items has this place.
pub record Items {A : Type 0} (G : A → ℕ → Type 0) (xs : List A) (n place : ℕ) : Type 0 where
  pub number : ℕ
  pub item : A
  pub within : number < n
  pub stands : slice_get xs number ≡ Some item
  pub holds : G item place

pub items_none : {A : Type 0} (G : A → ℕ → Type 0) (xs : List A) → IsLeastOrNone (Items G xs 0) None
items_none G xs = λ at h. let w = h.within in absurd (omega (arith, w))

one_more : {A : Type 0} (G : A → ℕ → Type 0) (xs : List A) (n : ℕ) (x : A) (o r : Option ℕ) → slice_get xs n ≡ Some x → IsLeastOrNone (G x) r → IsLeastOrNone (Items G xs n) o → IsLeastOrNone (Items G xs (n + 1)) (least_joined o r)
one_more G xs n x o r stands new all = least_same (least_joined o r) to from (least_both (Items G xs n) (G x) o r all new) where
  to : (place : ℕ) → Items G xs n place ⊎ G x place → Items G xs (n + 1) place
  to place (inl a) = record { number = a.number; item = a.item; within = (let w = a.within in omega (arith, w)); stands = a.stands; holds = a.holds }
  to place (inr g) = record { number = n; item = x; within = omega arith; stands = stands; holds = g }

  from : (place : ℕ) → Items G xs (n + 1) place → Items G xs n place ⊎ G x place
  from place a = elim (cases_lt a.number n) [
    | inr k ↦ (let w = a.within in let e : a.number ≡ n = omega (arith, w, k) in
        inr (subst (λ y. G y place) (same_Some a.item x (sym a.stands ∙ (ap (slice_get xs) e ∙ stands))) a.holds))
    | inl k ↦ inl (record { number = a.number; item = a.item; within = k; stands = a.stands; holds = a.holds })
  ]

pub items_next : {A : Type 0} (G : A → ℕ → Type 0) (xs : List A) (n : ℕ) (x : A) (o r : Option ℕ) → n < length xs → x ≡ get_or xs n x → IsLeastOrNone (G x) r → IsLeastOrNone (Items G xs n) o → IsLeastOrNone (Items G xs (n + 1)) (least_joined o r)
items_next G xs n x o r below at new all = one_more G xs n x o r (slice_get_read xs (length xs) n x refl below at) new all

-- the same, of an item as it is read
pub items_read : {A : Type 0} (G : A → ℕ → Type 0) (xs : List A) (n : ℕ) (d : A) (o r : Option ℕ) → n < length xs → IsLeastOrNone (G (get_or xs n d)) r → IsLeastOrNone (Items G xs n) o → IsLeastOrNone (Items G xs (n + 1)) (least_joined o r)
items_read G xs n d o r below new all = one_more G xs n (get_or xs n d) o r (slice_get-get_or xs n d below) new all

-- ---- sections

-- It is so of what the section says, and this is the section's place.
abbrev pub HasPlace : (Content → Type 0) → HeadSection → ℕ → Type 0
HasPlace P h place = P h.content × (place ≡ h.place)

-- It is so of what one of the first n sections says, and this is that section's place.
abbrev pub Among : (Content → Type 0) → List HeadSection → ℕ → ℕ → Type 0
Among P hs n place = Items (HasPlace P) hs n place

pub least_none : (P : Content → Type 0) (hs : List HeadSection) → IsLeastOrNone (Among P hs 0) None
least_none P hs = items_none (HasPlace P) hs

pub least_next : (P : Content → Type 0) (hs : List HeadSection) (n : ℕ) (h : HeadSection) (o : Option ℕ) → n < length hs → h ≡ get_or hs n h → P h.content → IsLeastOrNone (Among P hs n) o → IsLeastOrNone (Among P hs (n + 1)) (Some (lesser o h.place))
least_next P hs n h o below at p all = items_next (HasPlace P) hs n h o (Some h.place) below at ((p, refl), λ place x. let e = x.1 in omega (arith, e)) all

pub least_kept : (P : Content → Type 0) (hs : List HeadSection) (n : ℕ) (h : HeadSection) (o : Option ℕ) → n < length hs → h ≡ get_or hs n h → (P h.content → ⊥) → IsLeastOrNone (Among P hs n) o → IsLeastOrNone (Among P hs (n + 1)) o
least_kept P hs n h o below at p all = items_next (HasPlace P) hs n h o None below at (λ place x. p x.0) all

pub section_stands : (o : Option Part) (i : ℕ) (h : HeadSection) → slice_get (sections_in o) i ≡ Some h → option_and_then (λ p. slice_get p.sections i) o ≡ Some h
section_stands None i h e = cc
section_stands (Some p) i h e = e

pub stands_section : (o : Option Part) (i : ℕ) (h : HeadSection) → option_and_then (λ p. slice_get p.sections i) o ≡ Some h → slice_get (sections_in o) i ≡ Some h
stands_section None i h e = cc
stands_section (Some p) i h e = e

-- all sections of the part
pub least_all : (P : Content → Type 0) (parts : List Part) (own : ℕ) (hs : List HeadSection) (n : ℕ) (o : Option ℕ) → hs ≡ sections_in (slice_get parts own) → length hs ≤ n → IsLeastOrNone (Among P hs n) o → IsLeastOrNone (IsPlaceOf parts own P) o
least_all P parts own hs n o is past all = least_same o to from all where
  to : (place : ℕ) → Among P hs n place → IsPlaceOf parts own P place
  to place a = record { number = a.number; section = a.item; stands = section_stands (slice_get parts own) a.number a.item (ap (λ gs. slice_get gs a.number) (sym is) ∙ a.stands); holds = a.holds.0; place_is = a.holds.1 }

  from : (place : ℕ) → IsPlaceOf parts own P place → Among P hs n place
  from place a =
      let s : slice_get hs a.number ≡ Some a.section = ap (λ gs. slice_get gs a.number) is ∙ stands_section (slice_get parts own) a.number a.section a.stands in
      record { number = a.number; item = a.section; within = (let w = slice_get_within hs a.number a.section s in omega (arith, w, past)); stands = s; holds = (a.holds, a.place_is) }
