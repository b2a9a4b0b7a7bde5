-- Where a link's text is outside its grammar.
use Rattle.std.proofs.Common.{◌≡◌, ◌+◌, ℕ, List, [], ◌∷◌, ◌++◌, length, length-append, Option, None, Some, Result, Ok, Err, IfOk, MatchBool, MatchOption, MatchResult, slice_get, refl, ap, sym, ◌∙◌, subst, arith, append_assoc, append-nil, flat_map, All, codes}
use Rattle.vd_listing.specs.Listing.{IsCut, IsListing}
use Rattle.vd_outline.specs.declared.outline.Outline.{Outline}
use Rattle.vd_outline.specs.declared.outline.TextKind.{TextKind}
use Rattle.vd_outline.specs.declared.outline.TextKind.TheVariants.{Interface, Unit as UnitText, Link}
use Rattle.vd_outline.specs.declared.section.Section.{Section}
use Rattle.vd_outline.specs.Fault.{IsBad}
use Rattle.vd_outline.specs.Lines.{joined}
use Rattle.vd_outline.specs.Outline.{Bytes, HasHead, HasUnits, IsSection, Outlines, head_line, header_line}
use Rattle.vd_outline.proofs.BodyLaws.{joined-append}
use Rattle.vd_outline.proofs.TextLaws.{head_of_outline, one_head}
use Rattle.vd_outline.proofs.WordLaws.{lacks-header_line}
use Rattle.vd_linkage.specs.Conditions.{IsLinkFault, in_text, no_link, no_names, no_outline}
use Rattle.vd_linkage.specs.Form.{Entry}
use Rattle.vd_linkage.specs.Reading.{IsListOf}
use Rattle.vd_units.specs.declared.texts.Index.{Index}
use Rattle.vd_units.specs.Index.{IsIndexOf}
use Rattle.vd_units.specs.Listed.{IsToldIn, tells_link, told}
use Rattle.vd_linkage.specs.Shape.{IsLink, IsLinkText}
use Rattle.vd_linkage.specs.Texts.{text_named}
use Rattle.vd_linkage.proofs.Lists.{some_same}

-- a section is cut behind its header line
pub section_cut : (kind : TextKind) (s : Section) → (i : IsSection kind s) → IsCut s.text (header_line s.kind s.name) (joined i.lines)
section_cut kind s i = record {
  cut = i.bytes ∙ ap (λ x. header_line s.kind s.name ++ 10 ∷ x) (joined-append i.lines (codes "end" ∷ []));
  one_line = lacks-header_line s.kind s.name i.named;
}

-- the outline of a text with a link's head line is a link's
pub link_kind : (text name : Bytes) (o : Outline) → HasHead text Link name → Outlines text o → o.kind ≡ Link
link_kind text name o h out = (one_head text o.kind Link o.name name (head_of_outline text o out) h).0

-- a link has one section
pub alone_of : (o : Outline) (k : TextKind) → k ≡ Link → HasUnits k o.sections → (s : Section) × (o.sections ≡ s ∷ [])
alone_of o Link e h = h
alone_of o Interface e h = absurd (cc)
alone_of o UnitText e h = absurd (cc)

first_same : (ss : List Section) (s t : Section) → ss ≡ t ∷ [] → slice_get ss 0 ≡ Some s → ss ≡ s ∷ []
first_same ss s t e f = e ∙ ap (λ x. x ∷ []) (some_same t s (sym (ap (λ xs. slice_get xs 0) e) ∙ f))

module _ (text name : Bytes) (o : Outline) (head : HasHead text Link name) (out : Outlines text o) (s : Section) (first : slice_get o.sections 0 ≡ Some s) where
  alone : o.sections ≡ s ∷ []
  alone = (let a = alone_of o o.kind (link_kind text name o head out) out.units in first_same o.sections s a.0 a.1 first)

  pub first_cut : (header : Bytes) × (content : Bytes) × IsCut s.text header content
  first_cut =
      let is : IsSection o.kind s = subst (λ ss. All (IsSection o.kind) ss) alone out.sections 0 s (omega arith) in
      (header_line s.kind s.name, joined is.lines, section_cut o.kind s is)

  pub lists_names : (names : List Bytes) → IsListOf s.text names → IsLinkText text names
  lists_names names l = record { outline = o; outlined = out; kind_is = link_kind text name o head out; units = s; alone = alone; listed = l }

  -- the text is what stands before its one section, and that section
  pub its_front : text ≡ (head_line o.kind o.name ++ 10 ∷ []) ++ s.text
  its_front =
      out.bytes ∙ (ap (λ ss. head_line o.kind o.name ++ 10 ∷ flat_map (λ x. x.text) ss) alone
      ∙ (ap (λ x. head_line o.kind o.name ++ 10 ∷ x) (append-nil s.text) ∙ sym (append_assoc (head_line o.kind o.name) (10 ∷ []) s.text)))

  pub fault_told : (place at : ℕ) → IsListing s.text (Err place) → at ≡ told (length (head_line o.kind o.name ++ 10 ∷ []) + place) → IsToldIn text at
  fault_told place at l e = (
    length (head_line o.kind o.name) + 1 + place,
    no_names out alone l,
    e ∙ ap (λ n. told (n + place)) (length-append (head_line o.kind o.name) (10 ∷ [])),
  )

-- a link's outline has a section
pub some_section : (text name : Bytes) (o : Outline) → HasHead text Link name → Outlines text o → slice_get o.sections 0 ≡ None → ⊥
some_section text name o head out e = (let a = alone_of o o.kind (link_kind text name o head out) out.units in none_first o.sections a.0 a.1 e) where
  none_first : (ss : List Section) (s : Section) → ss ≡ s ∷ [] → slice_get ss 0 ≡ None → ⊥
  none_first ss s e f = cc

pub bad_told : (text : Bytes) (place : ℕ) → IsBad text place → IsToldIn text place
bad_told text place b = (b.0, no_outline b.2, b.1)

-- ---- the link's text

pub link_told : (text : Bytes) (found : Option (TextKind × Bytes)) → MatchOption found ((kind : TextKind) (name : Bytes) → HasHead text kind name → ⊥) (λ head. HasHead text head.0 head.1)
    → MatchBool (tells_link found) ((name : Bytes) × HasHead text Link name) ((name : Bytes) → HasHead text Link name → ⊥)
link_told text None none = λ name h. none Link name h
link_told text (Some (Interface, own)) head = λ name h. absurd (cc (one_head text Interface Link own name head h).0)
link_told text (Some (UnitText, own)) head = λ name h. absurd (cc (one_head text UnitText Link own name head h).0)
link_told text (Some (Link, own)) head = (own, head)

-- where a link is outside its grammar, as it is told
abbrev pub IsTold : List Entry → Bytes → ℕ → Type 0
IsTold entries link place = (at : ℕ) × IsLinkFault entries link at × (place ≡ told at)

module _ (entries : List Entry) (link : Bytes) where
  pub no_text_told : None ≡ text_named link entries → IsTold entries link 0
  no_text_told none = (0, no_link (λ text h. absurd (cc (none, h.current))), refl)

  pub no_link_told : (text : Bytes) → Some text ≡ text_named link entries → ((own : Bytes) → HasHead text Link own → ⊥) → IsTold entries link 0
  no_link_told text current none = (0, no_link (λ other h. none h.own (subst (λ t. HasHead t Link h.own) (some_same other text (sym h.current ∙ sym current)) h.head)), refl)

  pub text_answered : (text own : Bytes) → Some text ≡ text_named link entries → HasHead text Link own → (answer : Result (List Bytes) ℕ) → MatchResult answer (IsLinkText text) (IsToldIn text)
      → MatchResult answer (IsLink entries link) (IsTold entries link)
  text_answered text own current head (Ok names) is = record { text = text; current = sym current; is = is }
  text_answered text own current head (Err place) told_in = (told_in.0, in_text (record { current = sym current; own = own; head = head }) told_in.1, told_in.2)

pub link_answered : {E : Type 0} (index : Index) (link key text own : Bytes) → key ≡ link → ((entries : List Entry) → IsIndexOf entries index → Some text ≡ text_named key entries) → HasHead text Link own
    → (r : Result (Result (List Bytes) ℕ) E) → IfOk r (λ answer. MatchResult answer (IsLinkText text) (IsToldIn text))
    → IfOk r (λ answer. (entries : List Entry) → IsIndexOf entries index → MatchResult answer (IsLink entries link) (IsTold entries link))
link_answered index link key text own same current head (Err e) h = h
link_answered index link key text own same current head (Ok answer) h =
    λ entries is. text_answered entries link text own (current entries is ∙ ap (λ k. text_named k entries) same) head answer h
