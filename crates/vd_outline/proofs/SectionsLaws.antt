-- Sections that are read one after another.
use Rattle.std.proofs.Common.{◌≡◌, ℕ, ◌||◌, ◌==◌, Bool, true, false, List, [], ◌∷◌, ◌++◌, length, refl, ap, sym, ◌∙◌, subst, append_assoc, append-nil, arith, inl, inr}
use Rattle.std.specs.Prelude.{All}
use Rattle.std.specs.Str.{bytes_eq}
use Rattle.std.proofs.lemmas.Bool.{eqb-true}
use Rattle.std.proofs.lemmas.List.Elements.{All-push}
use Rattle.vd_outline.specs.declared.outline.TextKind.{TextKind}
use Rattle.vd_outline.specs.declared.outline.TextKind.TheVariants.{Link}
use Rattle.vd_outline.specs.declared.section.Section.{Section}
use Rattle.vd_outline.specs.Outline.{Bytes, header_line, IsSection, AreOnce}
use Rattle.vd_outline.specs.Reading.{SectionStops, AreSections, SectionsStop, has_header}
use Rattle.vd_outline.proofs.SectionLaws.{bytes_of, bytes_of-append, once_push, has_header-push}
use Rattle.vd_outline.proofs.LinkLaws.{has_units}

-- these sections were read, and their header lines are those seen
pub record HasSections (kind : TextKind) (bytes : Bytes) (sections : List Section) (seen : Bytes → Bool) (rest : Bytes) : Type 0 where
  pub cut : bytes ≡ bytes_of sections ++ rest
  pub each : All (IsSection kind) sections
  pub once : AreOnce sections
  pub same : (line : Bytes) → seen line ≡ has_header sections line

pub none_left : (bytes : Bytes) → (length bytes == 0) ≡ true → bytes ≡ []
none_left [] h = refl
none_left (b ∷ bytes) h = absurd (let long : length (b ∷ bytes) ≡ 0 = eqb-true (length (b ∷ bytes)) 0 h in omega arith)

pub some_left : (bytes : Bytes) → (length bytes == 0) ≡ false → bytes ≡ [] → ⊥
some_left bytes h none = let test : (length bytes == 0) ≡ true = ap (λ b. length b == 0) none in cc

pub section_more : (kind : TextKind) (bytes : Bytes) (sections sections' : List Section) (seen seen' : Bytes → Bool) (rest after : Bytes) (s : Section)
    → HasSections kind bytes sections seen rest → IsSection kind s → rest ≡ s.text ++ after → seen (header_line s.kind s.name) ≡ false
    → ((line : Bytes) → seen' line ≡ (bytes_eq (header_line s.kind s.name) line || seen line)) → sections' ≡ sections ++ s ∷ [] → HasSections kind bytes sections' seen' after
section_more kind bytes sections sections' seen seen' rest after s h i cut new now pushed = subst (λ ss. HasSections kind bytes ss seen' after) (sym pushed) (record {
  cut = h.cut ∙ ap (λ x. bytes_of sections ++ x) cut ∙ sym (append_assoc (bytes_of sections) s.text after)
      ∙ ap (λ x. x ++ after) (ap (λ x. bytes_of sections ++ x) (sym (append-nil s.text)) ∙ sym (bytes_of-append sections (s ∷ [])));
  each = All-push (IsSection kind) sections s h.each i;
  once = once_push sections s h.once (sym (h.same (header_line s.kind s.name)) ∙ new);
  same = λ line. now line ∙ ap (λ b. bytes_eq (header_line s.kind s.name) line || b) (h.same line) ∙ sym (has_header-push sections s line);
})

-- what was seen is what counts
stops_same : (kind : TextKind) (seen other : Bytes → Bool) (bytes : Bytes) (left : ℕ) → ((line : Bytes) → seen line ≡ other line) → SectionStops kind seen bytes left → SectionStops kind other bytes left
stops_same kind seen other bytes left same (inl none) = inl none
stops_same kind seen other bytes left same (inr (inl (at, all))) =
    inr (inl (record { line = at.line; rest = at.rest; cut = at.cut; one = at.one; bad = λ k n h. sym (same at.line) ∙ at.bad k n h }, all))
stops_same kind seen other bytes left same (inr (inr at)) = inr (inr (record {
  line = at.line;
  rest = at.rest;
  section = at.section;
  name = at.name;
  cut = at.cut;
  header = at.header;
  is_new = sym (same at.line) ∙ at.is_new;
  stops = at.stops;
}))

pub sections_stop : (kind : TextKind) (bytes : Bytes) (sections : List Section) (seen : Bytes → Bool) (rest : Bytes) (left : ℕ)
    → HasSections kind bytes sections seen rest → (rest ≡ [] → ⊥) → SectionStops kind seen rest left → SectionsStop kind bytes left
sections_stop kind bytes sections seen rest left h some stops = record {
  sections = sections;
  rest = rest;
  cut = h.cut;
  each = h.each;
  once = h.once;
  stops = inl (some, stops_same kind seen (has_header sections) rest left h.same stops);
}

pub all_sections : (kind : TextKind) (bytes : Bytes) (sections : List Section) (seen : Bytes → Bool) (rest : Bytes)
    → HasSections kind bytes sections seen rest → rest ≡ [] → (kind ≡ Link → sections ≡ [] → ⊥) → AreSections kind bytes sections
all_sections kind bytes sections seen rest h end some = record {
  cut = h.cut ∙ ap (λ x. bytes_of sections ++ x) end ∙ append-nil (bytes_of sections);
  each = h.each;
  once = h.once;
  units = has_units kind sections h.each h.once some;
}
