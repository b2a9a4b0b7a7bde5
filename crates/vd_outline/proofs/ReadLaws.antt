-- What is read of a section is a section.
use Rattle.std.proofs.Common.{◌≡◌, ℕ, ◌+◌, ◌-◌, true, Bool, false, [], ◌∷◌, ◌++◌, length, take, codes, Option, ap, sym, ◌∙◌, append_assoc, length-append, arith, inl, inr}
use Rattle.std.proofs.Math.Seq.{take-append_seam}
use Rattle.vd_outline.specs.declared.outline.TextKind.{TextKind}
use Rattle.vd_outline.specs.declared.section.SectionKind.{SectionKind}
use Rattle.vd_outline.specs.Lines.{lacks, joined}
use Rattle.vd_outline.specs.Outline.{Bytes, IsSection}
use Rattle.vd_outline.specs.Reading.{IsHeader, Ends, Stops, SectionStops}
use Rattle.vd_outline.proofs.BodyLaws.{joined-append}

-- the bytes up to the line `end`, that line included, and what follows
pub ends_cut : (bytes : Bytes) (count : ℕ) (e : Ends bytes count) → (bytes ≡ joined (e.lines ++ codes "end" ∷ []) ++ e.rest) × (count ≡ length (joined (e.lines ++ codes "end" ∷ [])))
ends_cut bytes count e =
    let split : joined (e.lines ++ codes "end" ∷ []) ≡ joined e.lines ++ (codes "end" ++ 10 ∷ []) = joined-append e.lines (codes "end" ∷ []) in
    let long : length (joined (e.lines ++ codes "end" ∷ [])) ≡ length (joined e.lines) + 4 = ap length split ∙ length-append (joined e.lines) (codes "end" ++ 10 ∷ []) in
    (e.inner.cut ∙ sym (append_assoc (joined e.lines) (codes "end" ++ 10 ∷ []) e.rest) ∙ ap (λ x. x ++ e.rest) (sym split), e.counted ∙ sym long)

pub section_read : (text : TextKind) (bytes line lines : Bytes) (kind : SectionKind) (name : Option Bytes) (body : ℕ) (whole : Bytes)
    → bytes ≡ line ++ 10 ∷ lines → IsHeader text line kind name → Ends lines body → whole ≡ take (length bytes - length lines + body) bytes
    → IsSection text (record { kind = kind; name = name; text = whole })
section_read text bytes line lines kind name body whole cut header e taken =
    let within = ends_cut lines body e in
    let front : Bytes = line ++ 10 ∷ joined (e.lines ++ codes "end" ∷ []) in
    let all : bytes ≡ front ++ e.rest = cut ∙ ap (λ x. line ++ 10 ∷ x) within.0 ∙ sym (append_assoc line (10 ∷ joined (e.lines ++ codes "end" ∷ [])) e.rest) in
    let one : length bytes ≡ length line + length (10 ∷ lines) = ap length cut ∙ length-append line (10 ∷ lines) in
    let two : length front ≡ length line + length (10 ∷ joined (e.lines ++ codes "end" ∷ [])) = length-append line (10 ∷ joined (e.lines ++ codes "end" ∷ [])) in
    let count : length bytes - length lines + body ≡ length front = omega (arith, within.1) in
    record {
      lines = e.lines;
      bytes = taken ∙ ap (λ n. take n bytes) count ∙ ap (take (length front)) all ∙ take-append_seam front e.rest ∙ ap (λ x. x ++ 10 ∷ joined (e.lines ++ codes "end" ∷ [])) header.is;
      printable = e.inner.printable;
      inside = e.inner.inside;
      named = header.named;
      stands = header.stands;
    }

pub stopped_inside : (text : TextKind) (seen : Bytes → Bool) (bytes line lines : Bytes) (kind : SectionKind) (name : Option Bytes) (left : ℕ)
    → bytes ≡ line ++ 10 ∷ lines → IsHeader text line kind name → seen line ≡ false → Stops lines left → SectionStops text seen bytes left
stopped_inside text seen bytes line lines kind name left cut header new stops =
    inr (inr (record { line = line; rest = lines; section = kind; name = name; cut = cut; header = header; is_new = new; stops = stops }))

pub stopped_seen : (text : TextKind) (seen : Bytes → Bool) (bytes line lines : Bytes) (left : ℕ)
    → bytes ≡ line ++ 10 ∷ lines → lacks 10 line ≡ true → seen line ≡ true → length bytes ≡ left → SectionStops text seen bytes left
stopped_seen text seen bytes line lines left cut one old at =
    inr (inl (record { line = line; rest = lines; cut = cut; one = one; bad = λ section name header. old }, sym at))
