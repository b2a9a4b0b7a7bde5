-- Bytes that are whole lines.
use Rattle.std.proofs.Common.{◌≡◌, ◌⊎◌, ◌+◌, ◌≤◌, true, List, [], ◌∷◌, ◌++◌, length, refl, ap, sym, ◌∙◌, subst, append_assoc, length-append, arith, inl, inr}
use Rattle.std.specs.Prelude.{All}
use Rattle.std.proofs.lemmas.List.Elements.{All-head, All-tail}
use Rattle.vd_outline.specs.declared.outline.TextKind.{TextKind}
use Rattle.vd_outline.specs.declared.section.Section.{Section}
use Rattle.vd_outline.specs.Lines.{lacks, joined}
use Rattle.vd_outline.specs.Outline.{Bytes, IsSection}
use Rattle.vd_outline.proofs.Cuts.{lacks_head, lacks_rest, uncut}
use Rattle.vd_outline.proofs.SectionLaws.{bytes_of}

-- the last byte is a line feed
pub record IsWhole (bytes : Bytes) : Type 0 where
  pub before : Bytes
  pub ended : bytes ≡ before ++ 10 ∷ []

pub whole-append : (front bytes : Bytes) → IsWhole bytes → IsWhole (front ++ bytes)
whole-append front bytes w = record { before = front ++ w.before; ended = ap (λ x. front ++ x) w.ended ∙ sym (append_assoc front w.before (10 ∷ [])) }

pub whole-joined : (line : Bytes) (lines : List Bytes) → IsWhole (joined (line ∷ lines))
whole-joined line [] = record { before = line; ended = refl }
whole-joined line (m ∷ lines) =
    let w : IsWhole (joined (m ∷ lines)) = whole-joined m lines in
    record { before = line ++ 10 ∷ w.before; ended = ap (λ x. line ++ 10 ∷ x) w.ended ∙ sym (append_assoc line (10 ∷ w.before) (10 ∷ [])) }

pub whole-bytes_of : (kind : TextKind) (line : Bytes) (ss : List Section) → All (IsSection kind) ss → IsWhole (line ++ 10 ∷ bytes_of ss)
whole-bytes_of kind line [] each = record { before = line; ended = refl }
whole-bytes_of kind line (s ∷ ss) each =
    let i : IsSection kind s = All-head (IsSection kind) s ss each in
    let w : IsWhole s.text = subst IsWhole (sym i.bytes) (whole-joined _ _) in
    let ih : IsWhole ((line ++ 10 ∷ w.before) ++ 10 ∷ bytes_of ss) = whole-bytes_of kind (line ++ 10 ∷ w.before) ss (All-tail (IsSection kind) s ss each) in
    let text : s.text ++ bytes_of ss ≡ w.before ++ 10 ∷ bytes_of ss = ap (λ x. x ++ bytes_of ss) w.ended ∙ append_assoc w.before (10 ∷ []) (bytes_of ss) in
    subst IsWhole (append_assoc line (10 ∷ w.before) (10 ∷ bytes_of ss) ∙ ap (λ x. line ++ 10 ∷ x) (sym text)) ih

empty : (bytes : Bytes) → length bytes ≡ 0 → bytes ≡ []
empty [] h = refl
empty (b ∷ bytes) h = absurd (omega arith)

-- where whole lines follow bytes that are not empty, those are whole lines too
pub whole_end : (front bytes before : Bytes) → (bytes ≡ [] → ⊥) → front ++ bytes ≡ before ++ 10 ∷ [] → IsWhole bytes
whole_end [] bytes before some e = record { before = before; ended = e }
whole_end (f ∷ front) bytes [] some e =
    let none : front ++ bytes ≡ [] = cc in
    let long : length front + length bytes ≡ 0 = sym (length-append front bytes) ∙ ap length none in
    absurd (some (empty bytes (omega arith)))
whole_end (f ∷ front) bytes (b ∷ before) some e = whole_end front bytes before some (cc)

-- bytes that lack the line feed are no whole lines, unless they are empty
pub not_whole : (bytes : Bytes) → lacks 10 bytes ≡ true → IsWhole bytes → ⊥
not_whole bytes one w = uncut 10 bytes w.before [] one w.ended

-- whole lines with which a text begins that begins with a line have that line first
pub has_line : (before rest line more : Bytes) → lacks 10 line ≡ true → before ++ 10 ∷ rest ≡ line ++ 10 ∷ more → (y : Bytes) × (before ++ 10 ∷ [] ≡ line ++ 10 ∷ y)
has_line [] rest [] more one e = ([], refl)
has_line (b ∷ before) rest [] more one e = (before ++ 10 ∷ [], let ten : b ≡ 10 = cc in ap (λ x. x ∷ (before ++ 10 ∷ [])) ten)
has_line [] rest (l ∷ line) more one e = absurd (lacks_head 10 l line one (cc))
has_line (b ∷ before) rest (l ∷ line) more one e =
    let heads : b ≡ l = cc in
    let ih = has_line before rest line more (lacks_rest 10 l line one) (cc) in
    (ih.0, let tails = ih.1 in cc)

-- whole lines that reach past a front reach past the line that follows it
pub reaches : (before rest front line more : Bytes) → lacks 10 line ≡ true → before ++ 10 ∷ rest ≡ front ++ (line ++ 10 ∷ more)
    → (length (before ++ 10 ∷ []) ≤ length front) ⊎ ((y : Bytes) × (before ++ 10 ∷ [] ≡ front ++ (line ++ 10 ∷ y)))
reaches before rest [] line more one e = inr (has_line before rest line more one e)
reaches [] rest (f ∷ front) line more one e = inl (omega arith)
reaches (b ∷ before) rest (f ∷ front) line more one e =
    let heads : b ≡ f = cc in
    elim (reaches before rest front line more one (cc)) [
      | inl le ↦ inl (omega arith)
      | inr past ↦ inr (past.0, let tails = past.1 in cc)
    ]

-- whole lines do not reach into bytes that lack the line feed
pub stays : (before rest front line : Bytes) → lacks 10 line ≡ true → before ++ 10 ∷ rest ≡ front ++ line → length (before ++ 10 ∷ []) ≤ length front
stays before rest [] line one e = absurd (uncut 10 line before rest one (sym e))
stays [] rest (f ∷ front) line one e = omega arith
stays (b ∷ before) rest (f ∷ front) line one e = let ih = stays before rest front line one (cc) in omega arith
