-- What a unit lacks, one section and one name after the other.
use Rattle.std.proofs.Common.{◌≡◌, ◌↔◌, ℕ, ◌+◌, ◌<◌, ◌≤◌, Bool, List, length, get_or, Option, None, Some, inl, inr, refl, ap, sym, ◌∙◌, subst, arith}
use Rattle.std.proofs.lemmas.Option.{none-some, same_Some, slice_get_read, slice_get_within}
use Rattle.std.specs.List.{Contains, slice_get}
use Rattle.std.specs.Option.{option_and_then}
use Rattle.vd_logic.specs.declared.assertion.Spec.{Spec}
use Rattle.vd_heads.specs.declared.content.Content.{Content}
use Rattle.vd_heads.specs.declared.content.Content.TheVariants as content
use Rattle.vd_heads.specs.declared.content.HeadSection.{HeadSection}
use Rattle.vd_heads.specs.declared.content.Mention.{Mention}
use Rattle.vd_heads.specs.declared.content.Part.{Part}
use Rattle.vd_heads.specs.Closure.{IsUnit, interface_at}
use Rattle.vd_heads.specs.Declaration.{Bytes, sections_in}
use Rattle.vd_heads.specs.Least.{IsLeastOrNone}
use Rattle.vd_known.specs.Completeness.{Asks, AsksFor, FailsComplete, IsMissing, IsServed, IsStray, LacksIn}
use Rattle.vd_known.proofs.ItemLaws.{NoneOf, contains_at, none_end, none_next, none_start}
use Rattle.vd_known.proofs.LeastLaws.{Items, least_same, section_stands, stands_section}

-- What the section says asks for what the unit lacks.
abbrev pub SectionAsks : Bytes → List Part → ℕ → HeadSection → Type 0
SectionAsks lines parts own h = AsksFor lines parts own h.content

-- None of the first n sections asks for what the unit lacks.
abbrev pub NoneAsks : Bytes → List Part → ℕ → List HeadSection → ℕ → Type 0
NoneAsks lines parts own hs n = NoneOf (SectionAsks lines parts own) hs n

-- The section lacks something at this place.
abbrev pub InSection : Bytes → List Part → ℕ → HeadSection → ℕ → Type 0
InSection lines parts own h place = LacksIn lines parts own h.content h.place place

module _ (lines : Bytes) (parts : List Part) (own : ℕ) where
  -- ---- what an interface asks for

  pub none_asked : (hs : List HeadSection) → NoneAsks lines parts own hs 0
  none_asked hs = none_start (SectionAsks lines parts own) hs

  pub none_asks_next : (hs : List HeadSection) (n : ℕ) (h : HeadSection) → n < length hs → h ≡ get_or hs n h → NoneAsks lines parts own hs n → (AsksFor lines parts own h.content → ⊥) → NoneAsks lines parts own hs (n + 1)
  none_asks_next hs n h below at before not = none_next (SectionAsks lines parts own) hs n h (slice_get_read hs (length hs) n h refl below at) before not

  pub section_asks : (hs : List HeadSection) (n : ℕ) (h : HeadSection) → n < length hs → h ≡ get_or hs n h → AsksFor lines parts own h.content → (i : ℕ) × (g : HeadSection) × (slice_get hs i ≡ Some g) × AsksFor lines parts own g.content
  section_asks hs n h below at asks = (n, h, slice_get_read hs (length hs) n h refl below at, asks)

  pub none_asks : (hs : List HeadSection) (n : ℕ) → length hs ≤ n → NoneAsks lines parts own hs n → (i : ℕ) × (h : HeadSection) × (slice_get hs i ≡ Some h) × AsksFor lines parts own h.content → ⊥
  none_asks hs n past none a = none_end (SectionAsks lines parts own) hs n past none a.0 a.1 a.2 a.3

  pub part_asks : (n : ℕ) (p : Part) (hs : List HeadSection) (T : Type 0) → T ↔ ((i : ℕ) × (h : HeadSection) × (slice_get hs i ≡ Some h) × AsksFor lines parts own h.content) → slice_get parts n ≡ Some p → hs ≡ p.sections → T ↔ Asks lines parts own n
  part_asks n p hs T asks e same = (to, from) where
    to : T → Asks lines parts own n
    to t = let a = asks.0 t in (a.0, a.1, ap (option_and_then (λ q. slice_get q.sections a.0)) e ∙ (ap (λ gs. slice_get gs a.0) (sym same) ∙ a.2), a.3)

    from : Asks lines parts own n → T
    from a = asks.1 (a.0, a.1, ap (λ gs. slice_get gs a.0) same ∙ (sym (ap (option_and_then (λ q. slice_get q.sections a.0)) e) ∙ a.2), a.3)

  pub no_part_asks : (n : ℕ) → slice_get parts n ≡ None → Asks lines parts own n → ⊥
  no_part_asks n e a = none-some a.1 (sym (ap (option_and_then (λ q. slice_get q.sections a.0)) e) ∙ a.2)

  -- ---- names that are exported

  pub missing_here : (m : Mention) (n : ℕ) → interface_at parts m.name ≡ Some n → Asks lines parts own n → IsLeastOrNone (IsMissing lines parts own m) (Some m.place)
  missing_here m n e asks = (record { number = n; is = e; asks = asks; place_is = refl }, λ at x. let p = x.place_is in omega (arith, p))

  pub none_missing : (m : Mention) (n : ℕ) → interface_at parts m.name ≡ Some n → (Asks lines parts own n → ⊥) → (at : ℕ) → IsMissing lines parts own m at → ⊥
  none_missing m n e asks at x = asks (subst (Asks lines parts own) (same_Some x.number n (sym x.is ∙ e)) x.asks)

  pub no_interface : (m : Mention) → interface_at parts m.name ≡ None → (at : ℕ) → IsMissing lines parts own m at → ⊥
  no_interface m e at x = none-some x.number (sym e ∙ x.is)

  pub all_missing : (names : List Mention) (n : ℕ) (o : Option ℕ) → length names ≤ n → IsLeastOrNone (Items (IsMissing lines parts own) names n) o → IsLeastOrNone (λ at. (m : Mention) × Contains names m × IsMissing lines parts own m at) o
  all_missing names n o past all = least_same o to from all where
    to : (at : ℕ) → Items (IsMissing lines parts own) names n at → (m : Mention) × Contains names m × IsMissing lines parts own m at
    to at a = (a.item, contains_at names a.number a.item a.stands, a.holds)

    from : (at : ℕ) → (m : Mention) × Contains names m × IsMissing lines parts own m at → Items (IsMissing lines parts own) names n at
    from at x =
        let k = x.1 in
        record { number = k.0; item = x.0; within = (let w = k.1 in omega (arith, w, past)); stands = slice_get_read names (length names) k.0 x.0 refl k.1 (sym k.2); holds = x.2 }

  -- ---- specifications

  pub served_lack : (name own_name : Bytes) (header : ℕ) → IsServed lines parts own name → name ≡ own_name → (at : ℕ) → (IsServed lines parts own own_name → ⊥) × (at ≡ header) → ⊥
  served_lack name own_name header served e at x = x.0 (subst (IsServed lines parts own) e served)

  pub unserved_lack : (name own_name : Bytes) (header : ℕ) → (IsServed lines parts own name → ⊥) → name ≡ own_name → IsLeastOrNone (λ at. (IsServed lines parts own own_name → ⊥) × (at ≡ header)) (Some header)
  unserved_lack name own_name header not e = ((λ s. not (subst (IsServed lines parts own) (sym e) s), refl), λ at x. let p = x.1 in omega (arith, p))

  -- ---- one section

  pub exports_lack : (c : Content) (names mentions : List Mention) (header : ℕ) (o : Option ℕ) → c ≡ content.Exports names → mentions ≡ names → IsLeastOrNone (λ at. (m : Mention) × Contains mentions m × IsMissing lines parts own m at) o
      → IsLeastOrNone (LacksIn lines parts own c header) o
  exports_lack c names mentions header o is same h =
      subst (λ k. IsLeastOrNone (LacksIn lines parts own k header) o) (sym is) (subst (λ ms. IsLeastOrNone (λ at. (m : Mention) × Contains ms m × IsMissing lines parts own m at) o) same h)

  pub specified_lack : (c : Content) (f : Spec) (twice : Bool) (header : ℕ) (o : Option ℕ) → c ≡ content.Spec f twice → IsLeastOrNone (λ at. (IsServed lines parts own f.name → ⊥) × (at ≡ header)) o → IsLeastOrNone (LacksIn lines parts own c header) o
  specified_lack c f twice header o is h = subst (λ k. IsLeastOrNone (LacksIn lines parts own k header) o) (sym is) h

  -- ---- the unit

  pub stray_lacks : IsUnit parts own → IsStray lines parts own → IsLeastOrNone (FailsComplete lines parts own) (Some 0)
  stray_lacks unit stray = ((unit, inl (stray, refl)), λ at x. omega arith)

  pub sections_lack : (hs : List HeadSection) (n : ℕ) (o : Option ℕ) → IsUnit parts own → (IsStray lines parts own → ⊥) → hs ≡ sections_in (slice_get parts own) → length hs ≤ n → IsLeastOrNone (Items (InSection lines parts own) hs n) o → IsLeastOrNone (FailsComplete lines parts own) o
  sections_lack hs n o unit stray is past all = least_same o to from all where
    to : (at : ℕ) → Items (InSection lines parts own) hs n at → FailsComplete lines parts own at
    to at a = (unit, inr (a.number, a.item, section_stands (slice_get parts own) a.number a.item (ap (λ gs. slice_get gs a.number) (sym is) ∙ a.stands), a.holds))

    from : (at : ℕ) → FailsComplete lines parts own at → Items (InSection lines parts own) hs n at
    from at f = elim f.1 [
      | inl s ↦ absurd (stray s.0)
      | inr x ↦ (let s : slice_get hs x.0 ≡ Some x.1 = ap (λ gs. slice_get gs x.0) is ∙ stands_section (slice_get parts own) x.0 x.1 x.2 in
          record { number = x.0; item = x.1; within = (let w = slice_get_within hs x.0 x.1 s in omega (arith, w, past)); stands = s; holds = x.3 })
    ]
