-- The smallest place of a fault in a section that is not read, one section after the other.
use Rattle.std.proofs.Common.{◌≡◌, ℕ, ◌+◌, ◌<◌, ◌≤◌, ◌⊎◌, min, List, length, get_or, Option, None, Some, inl, inr, refl, sym, ap, ◌∙◌, subst, arith}
use Rattle.std.proofs.lemmas.Bool.{cases_lt}
use Rattle.std.proofs.lemmas.Option.{same_Some, slice_get_read, slice_get_within}
use Rattle.std.specs.List.{slice_get}
use Rattle.std.specs.Option.{option_and_then}
use Rattle.vd_heads.specs.declared.content.Content.TheVariants as content
use Rattle.vd_heads.specs.declared.content.HeadSection.{HeadSection}
use Rattle.vd_heads.specs.declared.content.Part.{Part}
use Rattle.vd_heads.specs.Declaration.{sections_in}
use Rattle.vd_heads.specs.Least.{IsLeastOrNone, lesser}
use Rattle.vd_scopes.specs.Failing.{IsUnread}

-- One of the first n sections is not read, with its fault at the place.
pub record Among (hs : List HeadSection) (n place : ℕ) : Type 0 where
  pub number : ℕ
  pub section : HeadSection
  pub within : number < n
  pub stands : slice_get hs number ≡ Some section
  pub says : section.content ≡ content.Unread place

pub none_yet : (hs : List HeadSection) → IsLeastOrNone (Among hs 0) None
none_yet hs = λ at a. let w = a.within in absurd (omega (arith, w))

same_fault : (p q : ℕ) → content.Unread p ≡ content.Unread q → p ≡ q
same_fault p q e = cc

module _ (hs : List HeadSection) (n : ℕ) (h : HeadSection) (below : n < length hs) (is : h ≡ get_or hs n h) where
  this : slice_get hs n ≡ Some h
  this = slice_get_read hs (length hs) n h refl below is

  later : (place : ℕ) → Among hs n place → Among hs (n + 1) place
  later place a = record { number = a.number; section = a.section; within = (let w = a.within in omega (arith, w)); stands = a.stands; says = a.says }

  here : (place : ℕ) → h.content ≡ content.Unread place → Among hs (n + 1) place
  here place e = record { number = n; section = h; within = omega arith; stands = this; says = e }

  either : (place : ℕ) → Among hs (n + 1) place → Among hs n place ⊎ (h.content ≡ content.Unread place)
  either place a = elim (cases_lt a.number n) [
    | inl k ↦ inl (record { number = a.number; section = a.section; within = k; stands = a.stands; says = a.says })
    | inr k ↦ (let w = a.within in let e : n ≡ a.number = omega (arith, w, k) in
        inr (ap (λ g. g.content) (same_Some h a.section (sym this ∙ (ap (slice_get hs) e ∙ a.stands))) ∙ a.says))
  ]

  pub kept : (o : Option ℕ) → ((place : ℕ) → h.content ≡ content.Unread place → ⊥) → IsLeastOrNone (Among hs n) o → IsLeastOrNone (Among hs (n + 1)) o
  kept None read before = λ at a. elim (either at a) [ inl b ↦ before at b | inr e ↦ read at e ]
  kept (Some place) read before = (later place before.0, λ at a. elim (either at a) [ inl b ↦ before.1 at b | inr e ↦ absurd (read at e) ])

  smaller : (p q : ℕ) → p < q → min p q ≡ p
  smaller p q l = omega (arith, l)

  other_smaller : (p q : ℕ) → q ≤ p → min p q ≡ q
  other_smaller p q l = omega (arith, l)

  pub added : (o : Option ℕ) (x : ℕ) → h.content ≡ content.Unread x → IsLeastOrNone (Among hs n) o → IsLeastOrNone (Among hs (n + 1)) (Some (lesser o x))
  added None x e before = (here x e, λ at a. elim (either at a) [ inl b ↦ absurd (before at b) | inr f ↦ (let s = same_fault x at (sym e ∙ f) in omega (arith, s)) ])
  added (Some place) x e before = elim (cases_lt place x) [
    | inl l ↦ (let m = smaller place x l in (
      subst (Among hs (n + 1)) (sym m) (later place before.0),
      λ at a. elim (either at a) [ inl b ↦ (let k = before.1 at b in omega (arith, k, m)) | inr f ↦ (let s = same_fault x at (sym e ∙ f) in omega (arith, s, m, l)) ],
    ))
    | inr l ↦ (let m = other_smaller place x l in (
      subst (Among hs (n + 1)) (sym m) (here x e),
      λ at a. elim (either at a) [ inl b ↦ (let k = before.1 at b in omega (arith, k, m, l)) | inr f ↦ (let s = same_fault x at (sym e ∙ f) in omega (arith, s, m)) ],
    ))
  ]

-- ---- all sections of the part

stands_there : (p : Option Part) (i : ℕ) (h : HeadSection) → slice_get (sections_in p) i ≡ Some h → option_and_then (λ q. slice_get q.sections i) p ≡ Some h
stands_there None i h e = cc
stands_there (Some q) i h e = e

there_stands : (p : Option Part) (i : ℕ) (h : HeadSection) → option_and_then (λ q. slice_get q.sections i) p ≡ Some h → slice_get (sections_in p) i ≡ Some h
there_stands None i h e = cc
there_stands (Some q) i h e = e

pub all_read : (parts : List Part) (own : ℕ) (hs : List HeadSection) (n : ℕ) (o : Option ℕ) → hs ≡ sections_in (slice_get parts own) → length hs ≤ n → IsLeastOrNone (Among hs n) o → IsLeastOrNone (IsUnread parts own) o
all_read parts own hs n o is past = go o where
  to : (place : ℕ) → Among hs n place → IsUnread parts own place
  to place a = record { number = a.number; section = a.section; stands = stands_there (slice_get parts own) a.number a.section (ap (λ gs. slice_get gs a.number) (sym is) ∙ a.stands); says = a.says }

  from : (place : ℕ) → IsUnread parts own place → Among hs n place
  from place a =
      let s : slice_get hs a.number ≡ Some a.section = ap (λ gs. slice_get gs a.number) is ∙ there_stands (slice_get parts own) a.number a.section a.stands in
      record { number = a.number; section = a.section; within = (let w = slice_get_within hs a.number a.section s in omega (arith, w, past)); stands = s; says = a.says }

  go : (o : Option ℕ) → IsLeastOrNone (Among hs n) o → IsLeastOrNone (IsUnread parts own) o
  go None h = λ at a. h at (from at a)
  go (Some place) h = (to place h.0, λ at a. h.1 at (from at a))
