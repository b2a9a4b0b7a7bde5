-- Sections are read in one way.
use Rattle.std.proofs.Common.{◌≡◌, ◌+◌, ◌≤◌, Bool, true, false, ◌||◌, List, [], ◌∷◌, ◌++◌, length, flat_map, codes, Option, refl, ap, sym, ◌∙◌, append_assoc, length-append, arith}
use Rattle.std.specs.Prelude.{All}
use Rattle.std.specs.Str.{bytes_eq}
use Rattle.std.proofs.lemmas.Bool.{false_from_ne_true}
use Rattle.std.proofs.lemmas.List.Elements.{All-head, All-tail}
use Rattle.std.proofs.lemmas.Slice.Eq.{bytes_eq-Decides}
use Rattle.vd_outline.specs.declared.outline.TextKind.{TextKind}
use Rattle.vd_outline.specs.declared.section.Section.{Section}
use Rattle.vd_outline.specs.declared.section.SectionKind.{SectionKind}
use Rattle.vd_outline.specs.Lines.{lacks, joined}
use Rattle.vd_outline.specs.Outline.{Bytes, header_line, IsSection, IsNew, AreOnce}
use Rattle.vd_outline.specs.Reading.{HasInner, has_header}
use Rattle.vd_outline.proofs.Cuts.{cut_unique}
use Rattle.vd_outline.proofs.WordLaws.{lacks-header_line}
use Rattle.vd_outline.proofs.HeaderLaws.{header_line_unique}
use Rattle.vd_outline.proofs.BodyLaws.{joined-append, body_unique}

-- the bytes of sections
abbrev pub bytes_of : List Section → Bytes
bytes_of sections = flat_map (λ s. s.text) sections

pub bytes_of-append : (ss ts : List Section) → bytes_of (ss ++ ts) ≡ bytes_of ss ++ bytes_of ts
bytes_of-append [] ts = refl
bytes_of-append (s ∷ ss) ts = ap (λ x. s.text ++ x) (bytes_of-append ss ts) ∙ sym (append_assoc s.text (bytes_of ss) (bytes_of ts))

-- where bytes begin with sections and are sections, the first of these are those
pub record HasFirst (ss ts : List Section) (rest : Bytes) : Type 0 where
  pub others : List Section
  pub are : ts ≡ ss ++ others
  pub cut : rest ≡ bytes_of others

made : SectionKind → Option Bytes → Bytes → Section
made kind name text = record { kind = kind; name = name; text = text }

same_section : (s t : Section) → s.kind ≡ t.kind → s.name ≡ t.name → s.text ≡ t.text → s ≡ t
unfolding made
same_section s t k n x = ap (λ z. made z s.name s.text) k ∙ ap (λ z. made t.kind z s.text) n ∙ ap (λ z. made t.kind t.name z) x

module _ (text : TextKind) where
  -- the bytes behind a section's header line, where more bytes follow the section
  abbrev pub behind_header : (s : Section) → IsSection text s → Bytes → Bytes
  behind_header s i more = joined i.lines ++ (codes "end" ++ 10 ∷ more)

  pub text_cut : (s : Section) (i : IsSection text s) (more : Bytes) → s.text ++ more ≡ header_line s.kind s.name ++ 10 ∷ behind_header s i more
  text_cut s i more =
      let header = header_line s.kind s.name in
      let inside : joined (i.lines ++ codes "end" ∷ []) ++ more ≡ behind_header s i more =
      ap (λ x. x ++ more) (joined-append i.lines (codes "end" ∷ [])) ∙ append_assoc (joined i.lines) (codes "end" ++ 10 ∷ []) more in
      ap (λ x. x ++ more) i.bytes ∙ append_assoc header (10 ∷ joined (i.lines ++ codes "end" ∷ [])) more ∙ ap (λ x. header ++ 10 ∷ x) inside

  pub inner_of : (s : Section) (i : IsSection text s) (more bytes : Bytes) → bytes ≡ behind_header s i more → HasInner bytes i.lines (codes "end" ++ 10 ∷ more)
  inner_of s i more bytes e = record { cut = e; printable = i.printable; inside = i.inside }

  -- the first line of bytes that begin with a section is its header line
  pub header_cut : (s : Section) (i : IsSection text s) (more line rest : Bytes) → lacks 10 line ≡ true → line ++ 10 ∷ rest ≡ s.text ++ more → (line ≡ header_line s.kind s.name) × (rest ≡ behind_header s i more)
  header_cut s i more line rest one e =
      cut_unique 10 line rest (header_line s.kind s.name) (behind_header s i more) one (lacks-header_line s.kind s.name i.named) (e ∙ text_cut s i more)

  -- bytes begin with one section at most
  pub section_unique : (s t : Section) (more more' : Bytes) → IsSection text s → IsSection text t → s.text ++ more ≡ t.text ++ more' → (s ≡ t) × (more ≡ more')
  section_unique s t more more' i j e =
      let heads = header_cut t j more' (header_line s.kind s.name) (behind_header s i more) (lacks-header_line s.kind s.name i.named) (sym (text_cut s i more) ∙ e) in
      let same = header_line_unique s.kind t.kind s.name t.name heads.0 in
      let kinds : s.kind ≡ t.kind = same.0 in
      let names : s.name ≡ t.name = same.1 in
      let bodies = body_unique (behind_header s i more) i.lines j.lines more more' (inner_of s i more (behind_header s i more) refl) (inner_of t j more' (behind_header s i more) heads.1) in
      let texts : s.text ≡ t.text = i.bytes ∙ ap (λ x. joined (x ∷ (i.lines ++ codes "end" ∷ []))) heads.0
      ∙ ap (λ x. joined (header_line t.kind t.name ∷ (x ++ codes "end" ∷ []))) bodies.0 ∙ sym j.bytes in
      (same_section s t kinds names texts, bodies.1)

  -- a section is not empty
  pub section_long : (s : Section) → IsSection text s → 1 ≤ length s.text
  section_long s i =
      let long : length s.text ≡ length (header_line s.kind s.name) + length (10 ∷ joined (i.lines ++ codes "end" ∷ [])) =
      ap length i.bytes ∙ length-append (header_line s.kind s.name) (10 ∷ joined (i.lines ++ codes "end" ∷ [])) in
      omega arith

  pub some_text : (s : Section) (more : Bytes) → IsSection text s → s.text ++ more ≡ [] → ⊥
  some_text s more i e =
      let none : length s.text + length more ≡ 0 = sym (length-append s.text more) ∙ ap length e in
      omega (arith, section_long s i)

  pub first_sections : (ss ts : List Section) (rest : Bytes) → All (IsSection text) ss → All (IsSection text) ts → bytes_of ss ++ rest ≡ bytes_of ts → HasFirst ss ts rest
  first_sections [] ts rest a b e = record { others = ts; are = refl; cut = e }
  first_sections (s ∷ ss) [] rest a b e = absurd (some_text s (bytes_of ss ++ rest) (All-head (IsSection text) s ss a) (sym (append_assoc s.text (bytes_of ss) rest) ∙ e))
  first_sections (s ∷ ss) (t ∷ ts) rest a b e =
      let both = section_unique s t (bytes_of ss ++ rest) (bytes_of ts) (All-head (IsSection text) s ss a) (All-head (IsSection text) t ts b) (sym (append_assoc s.text (bytes_of ss) rest) ∙ e) in
      let ih : HasFirst ss ts rest = first_sections ss ts rest (All-tail (IsSection text) s ss a) (All-tail (IsSection text) t ts b) both.1 in
      record { others = ih.others; are = ap (λ x. x ∷ ts) (sym both.0) ∙ ap (λ x. s ∷ x) ih.are; cut = ih.cut }

-- ---- each kind and name at most once

abbrev header_of_section : Section → Bytes
header_of_section s = header_line s.kind s.name

unlike : (a b : Bytes) → (a ≡ b → ⊥) → bytes_eq b a ≡ false
unlike a b apart = false_from_ne_true (bytes_eq b a) (λ t. apart (sym ((bytes_eq-Decides b a).0 t)))

-- no section of these has the line for its header line
lacks_header : (s : Section) (ts : List Section) → IsNew s ts → has_header ts (header_of_section s) ≡ false
lacks_header s [] n = refl
lacks_header s (t ∷ ts) n = rw (unlike (header_of_section s) (header_of_section t) n.0) (lacks_header s ts n.1)

or_false_left : (a b : Bool) → (a || b) ≡ false → a ≡ false
or_false_left true b h = h
or_false_left false b h = refl

or_false_right : (a b : Bool) → (a || b) ≡ false → b ≡ false
or_false_right true b h = absurd (cc)
or_false_right false b h = h

both_false : (a b : Bool) → a ≡ false → b ≡ false → (a || b) ≡ false
both_false true b p q = p
both_false false b p q = q

-- a section that is new behind others
new_push : (t : Section) (ss : List Section) (s : Section) → IsNew t ss → (header_of_section t ≡ header_of_section s → ⊥) → IsNew t (ss ++ s ∷ [])
new_push t [] s n apart = (apart, tt)
new_push t (u ∷ ss) s n apart = (n.0, new_push t ss s n.1 apart)

pub once_push : (ss : List Section) (s : Section) → AreOnce ss → has_header ss (header_line s.kind s.name) ≡ false → AreOnce (ss ++ s ∷ [])
once_push [] s once new = (tt, tt)
once_push (t ∷ ss) s once new =
    let first : bytes_eq (header_of_section t) (header_of_section s) ≡ false = or_false_left _ (has_header ss (header_of_section s)) new in
    let apart : header_of_section t ≡ header_of_section s → ⊥ = λ e. (let same = (bytes_eq-Decides (header_of_section t) (header_of_section s)).1 e in cc) in
    (new_push t ss s once.0 apart, once_push ss s once.1 (or_false_right (bytes_eq (header_of_section t) (header_of_section s)) (has_header ss (header_of_section s)) new))

new_among : (t : Section) (ss : List Section) (s : Section) (us : List Section) → IsNew t (ss ++ s ∷ us) → header_of_section t ≡ header_of_section s → ⊥
new_among t [] s us n = n.0
new_among t (u ∷ ss) s us n = new_among t ss s us n.1

-- of sections that stand once, none before another has its header line
pub once_before : (ss : List Section) (s : Section) (us : List Section) → AreOnce (ss ++ s ∷ us) → has_header ss (header_line s.kind s.name) ≡ false
once_before [] s us once = refl
once_before (t ∷ ss) s us once =
    both_false (bytes_eq (header_of_section t) (header_of_section s)) (has_header ss (header_of_section s))
    (unlike (header_of_section s) (header_of_section t) (λ e. new_among t ss s us once.0 (sym e)))
    (once_before ss s us once.1)

three : (a b r : Bool) → (a || (b || r)) ≡ (b || (a || r))
three true true r = refl
three true false r = refl
three false true r = refl
three false false r = refl

pub has_header-push : (ss : List Section) (s : Section) (line : Bytes) → has_header (ss ++ s ∷ []) line ≡ (bytes_eq (header_line s.kind s.name) line || has_header ss line)
has_header-push [] s line = refl
has_header-push (t ∷ ss) s line = rw (has_header-push ss s line) (three (bytes_eq (header_of_section t) line) (bytes_eq (header_of_section s) line) (has_header ss line))
