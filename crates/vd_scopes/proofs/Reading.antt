-- What a section says, by its kind and by what was read of it.
use Rattle.std.proofs.Common.{◌≡◌, ◌≢◌, ◌⊎◌, ℕ, List, Result, Ok, Err, IfOk, OnOk, inl, inr, refl, ap, sym, subst, ◌∙◌}
use Rattle.vd_grammar.specs.declared.fault.ParseFault.{ParseFault}
use Rattle.vd_grammar.specs.declared.fault.ParseFault.TheVariants as fault
use Rattle.vd_heads.specs.declared.content.Content.{Content}
use Rattle.vd_heads.specs.declared.content.Mention.{Mention}
use Rattle.vd_heads.specs.declared.content.Content.TheVariants as content
use Rattle.vd_listing.specs.Listing.{IsListing}
use Rattle.vd_outline.specs.declared.section.SectionKind.{SectionKind}
use Rattle.vd_outline.specs.declared.section.SectionKind.TheVariants as section
use Rattle.vd_scopes.specs.Head.{Lists, Says, listing, fault_content, placed}

pub lists_none : (make : List Mention → Content) (text : List ℕ) (at : ℕ) (why : ParseFault) → ((place : ℕ) → why ≡ fault.Bad place → IsListing text (Err place)) → ((place : ℕ) → why ≡ fault.Deep place → ⊥)
    → why ≢ fault.Memory → (c : Content) → c ≡ fault_content at why → Lists make text at c
lists_none make text at (fault.Bad place) bad deep certain c e = record { answer = Err place; listed = bad place refl; says = e }
lists_none make text at (fault.Deep place) bad deep certain c e = absurd (deep place refl)
lists_none make text at fault.Memory bad deep certain c e = absurd (certain refl)

pub lists_names : (make : List Mention → Content) (text : List ℕ) (at : ℕ) (names found : List Mention) → IsListing text (Ok names) → found ≡ placed at names → (c : Content) → c ≡ make found → Lists make text at c
lists_names make text at names found is e c f = record { answer = Ok names; listed = is; says = f ∙ ap make e }

both_ok : {X E Q : Type 0} (P R : X → Type 0) (r : Result X E) → IfOk r P → OnOk r Q → ((x : X) → P x → Q → R x) → IfOk r R
both_ok P R (Ok x) p q f = f x p q
both_ok P R (Err e) p q f = tt

pub lists_unread : {E : Type 0} (make : List Mention → Content) (text : List ℕ) (at : ℕ) (why : ParseFault) (r : Result Content E) → ((place : ℕ) → why ≡ fault.Bad place → IsListing text (Err place))
    → ((place : ℕ) → why ≡ fault.Deep place → ⊥) → IfOk r (λ c. c ≡ fault_content at why) → OnOk r (why ≢ fault.Memory) → IfOk r (Lists make text at)
lists_unread make text at why r bad deep content certain =
    both_ok (λ c. c ≡ fault_content at why) (Lists make text at) r content certain (λ c e sure. lists_none make text at why bad deep sure c e)

-- ---- by kinds

pub says_by_kind : {E : Type 0} (kind other : SectionKind) (text : List ℕ) (at : ℕ) (r : Result Content E) → kind ≡ other → IfOk r (Says other text at) → IfOk r (Says kind text at)
says_by_kind kind other text at r e h = subst (λ k. IfOk r (Says k text at)) (sym e) h

pub says_otherwise : {E : Type 0} (kind : SectionKind) (text : List ℕ) (at : ℕ) (r : Result Content E)
    → (kind ≡ section.Uses) ⊎ ((kind ≡ section.Units) ⊎ ((kind ≡ section.Fn) ⊎ ((kind ≡ section.Script) ⊎ ((kind ≡ section.Sub) ⊎ (kind ≡ section.Init)))))
    → IfOk r (Lists (λ names. content.Uses names) text at) → IfOk r (Says kind text at)
says_otherwise kind text at r (inl e) h = says_by_kind kind section.Uses text at r e h
says_otherwise kind text at r (inr (inl e)) h = says_by_kind kind section.Units text at r e h
says_otherwise kind text at r (inr (inr (inl e))) h = says_by_kind kind section.Fn text at r e h
says_otherwise kind text at r (inr (inr (inr (inl e)))) h = says_by_kind kind section.Script text at r e h
says_otherwise kind text at r (inr (inr (inr (inr (inl e))))) h = says_by_kind kind section.Sub text at r e h
says_otherwise kind text at r (inr (inr (inr (inr (inr e))))) h = says_by_kind kind section.Init text at r e h
