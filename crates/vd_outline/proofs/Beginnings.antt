-- Texts that begin with a head line and sections.
use Rattle.std.proofs.Common.{◌≡◌, true, false, not, List, [], ◌∷◌, ◌++◌, codes, Option, None, refl, ap, sym, ◌∙◌, subst, append_assoc, append-nil, inl, inr}
use Rattle.std.specs.Prelude.{All}
use Rattle.std.specs.List.{list_all}
use Rattle.std.proofs.lemmas.List.Elements.{All-push, All-tail}
use Rattle.vd_base.specs.Name.{is_name}
use Rattle.vd_outline.specs.declared.outline.Outline.{Outline}
use Rattle.vd_outline.specs.declared.outline.TextKind.{TextKind}
use Rattle.vd_outline.specs.declared.outline.TextKind.TheVariants.{Interface, Unit as UnitText, Link}
use Rattle.vd_outline.specs.declared.section.Section.{Section}
use Rattle.vd_outline.specs.declared.section.SectionKind.{SectionKind}
use Rattle.vd_outline.specs.declared.section.SectionKind.TheVariants as section
use Rattle.vd_outline.specs.Fault.{MayBegin, StandsSoFar}
use Rattle.vd_outline.specs.Lines.{is_line, is_end, joined}
use Rattle.vd_outline.specs.Outline.{Bytes, head_line, header_line, IsSection, AreOnce, Outlines}
use Rattle.vd_outline.specs.Reading.{IsHeader, has_header}
use Rattle.vd_outline.proofs.Cuts.{cut_unique}
use Rattle.vd_outline.proofs.WordLaws.{lacks-head_line, head_line_unique}
use Rattle.vd_outline.proofs.BodyLaws.{joined-append}
use Rattle.vd_outline.proofs.SectionLaws.{bytes_of, bytes_of-append, HasFirst, first_sections, once_push}
use Rattle.vd_outline.proofs.LinkLaws.{link_one, has_units}
use Rattle.vd_outline.proofs.Ends.{IsWhole, whole-bytes_of, whole-append, whole-joined}

-- a head line and sections
abbrev pub front_of : TextKind → Bytes → List Section → Bytes
front_of kind name ss = head_line kind name ++ 10 ∷ bytes_of ss

pub front-append : (kind : TextKind) (name : Bytes) (ss : List Section) (more : Bytes) → front_of kind name ss ++ more ≡ head_line kind name ++ 10 ∷ (bytes_of ss ++ more)
front-append kind name ss more = append_assoc (head_line kind name) (10 ∷ bytes_of ss) more

all_right : {X : Type 0} (P : X → Type 0) (xs ys : List X) → All P (xs ++ ys) → All P ys
all_right P [] ys all = all
all_right P (x ∷ xs) ys all = all_right P xs ys (All-tail P x (xs ++ ys) all)

-- ---- what an outline of such a text has

-- the outline has this kind, this name and these sections first, and others that are the rest
pub record HasBegun (kind : TextKind) (name : Bytes) (ss : List Section) (more : Bytes) (o : Outline) : Type 0 where
  pub kinds : o.kind ≡ kind
  pub names : o.name ≡ name
  pub others : List Section
  pub are : o.sections ≡ ss ++ others
  pub cut : more ≡ bytes_of others
  pub each : All (IsSection kind) others
  pub once : AreOnce (ss ++ others)

pub begun : (kind : TextKind) (name : Bytes) (ss : List Section) (more : Bytes) (o : Outline) → is_name name ≡ true → All (IsSection kind) ss → Outlines (front_of kind name ss ++ more) o → HasBegun kind name ss more o
begun kind name ss more o named each h =
    let both = cut_unique 10 (head_line kind name) (bytes_of ss ++ more) (head_line o.kind o.name) (bytes_of o.sections) (lacks-head_line kind name named) (lacks-head_line o.kind o.name h.named)
    (sym (front-append kind name ss more) ∙ h.bytes) in
    let same = head_line_unique kind o.kind name o.name both.0 in
    let all : All (IsSection kind) o.sections = subst (λ k. All (IsSection k) o.sections) (sym same.0) h.sections in
    let first : HasFirst ss o.sections more = first_sections kind ss o.sections more each all both.1 in
    record {
      kinds = sym same.0;
      names = sym same.1;
      others = first.others;
      are = first.are;
      cut = first.cut;
      each = all_right (IsSection kind) ss first.others (subst (All (IsSection kind)) first.are all);
      once = subst AreOnce first.are h.once;
    }

-- ---- outlines of such texts

pub outlined : (kind : TextKind) (name : Bytes) (ss : List Section) → is_name name ≡ true → All (IsSection kind) ss → AreOnce ss → (kind ≡ Link → ss ≡ [] → ⊥) → Outlines (front_of kind name ss) (record { kind = kind; name = name; sections = ss })
outlined kind name ss named each once some = record { named = named; bytes = refl; sections = each; once = once; units = has_units kind ss each once some }

-- a text that ends here has an outline
may_end : (kind : TextKind) (name : Bytes) (ss : List Section) → is_name name ≡ true → All (IsSection kind) ss → AreOnce ss → (kind ≡ Link → ss ≡ [] → ⊥) → MayBegin (front_of kind name ss)
may_end kind name ss named each once some =
    let o : Outline = record { kind = kind; name = name; sections = ss } in
    ([], o, subst (λ t. Outlines t o) (sym (append-nil (front_of kind name ss))) (outlined kind name ss named each once some))

no_push : (ss : List Section) (s : Section) → ss ++ s ∷ [] ≡ [] → ⊥
no_push [] s e = cc
no_push (t ∷ ss) s e = cc

-- where a section is added, the bytes before it may begin a text
may_go_on : (kind : TextKind) (name : Bytes) (ss : List Section) (s : Section) (front more : Bytes) → is_name name ≡ true → All (IsSection kind) ss → AreOnce ss → IsSection kind s → has_header ss (header_line s.kind s.name) ≡ false
    → front ++ more ≡ front_of kind name ss ++ s.text → MayBegin front
may_go_on kind name ss s front more named each once i new cut =
    let o : Outline = record { kind = kind; name = name; sections = ss ++ s ∷ [] } in
    let whole : front_of kind name (ss ++ s ∷ []) ≡ front ++ more =
    ap (λ x. head_line kind name ++ 10 ∷ x) (bytes_of-append ss (s ∷ []) ∙ ap (λ x. bytes_of ss ++ x) (append-nil s.text)) ∙ sym (front-append kind name ss s.text) ∙ sym cut in
    (more, o, subst (λ t. Outlines t o) whole (outlined kind name (ss ++ s ∷ []) named (All-push (IsSection kind) ss s each i) (once_push ss s once new) (λ link none. no_push ss s none)))

-- the shortest section of a link
units_section : Section
units_section = record { kind = section.Units; name = None; text = codes "units" ++ 10 ∷ (codes "end" ++ 10 ∷ []) }

is_units_section : IsSection Link units_section
unfolding units_section
is_units_section = record { lines = []; bytes = refl; printable = refl; inside = refl; named = refl; stands = refl }

no_headers : (ss : List Section) (line : Bytes) → ss ≡ [] → has_header ss line ≡ false
no_headers ss line none = ap (λ x. has_header x line) none

-- a head line and sections that stand once may begin a text
pub may_between : (kind : TextKind) (name : Bytes) (ss : List Section) → is_name name ≡ true → All (IsSection kind) ss → AreOnce ss → MayBegin (front_of kind name ss)
may_between Interface name ss named each once = may_end Interface name ss named each once (λ link none. cc)
may_between UnitText name ss named each once = may_end UnitText name ss named each once (λ link none. cc)
may_between Link name ss named each once = elim (link_one ss each once) [
  | inl none ↦ may_go_on Link name ss units_section (front_of Link name ss) units_section.text named each once is_units_section (no_headers ss _ none) refl
  | inr one ↦ may_end Link name ss named each once (λ link none. let s = one.1 in cc)
]

-- a new header line and lines of a section behind it may begin a text
pub may_inside : (kind : TextKind) (name : Bytes) (ss : List Section) (line : Bytes) (lines : List Bytes) (sk : SectionKind) (sn : Option Bytes) → is_name name ≡ true → All (IsSection kind) ss → AreOnce ss
    → IsHeader kind line sk sn → has_header ss line ≡ false → list_all is_line lines ≡ true → list_all (λ l. not (is_end l)) lines ≡ true → MayBegin (front_of kind name ss ++ joined (line ∷ lines))
may_inside kind name ss line lines sk sn named each once header new printable inside =
    let all : Bytes = joined (header_line sk sn ∷ (lines ++ codes "end" ∷ [])) in
    let s : Section = record { kind = sk; name = sn; text = all } in
    let i : IsSection kind s = record { lines = lines; bytes = refl; printable = printable; inside = inside; named = header.named; stands = header.stands } in
    let text : joined (line ∷ lines) ++ (codes "end" ++ 10 ∷ []) ≡ all =
    sym (joined-append (line ∷ lines) (codes "end" ∷ [])) ∙ ap (λ x. joined (x ∷ (lines ++ codes "end" ∷ []))) header.is in
    may_go_on kind name ss s (front_of kind name ss ++ joined (line ∷ lines)) (codes "end" ++ 10 ∷ []) named each once i (subst (λ x. has_header ss x ≡ false) header.is new)
    (append_assoc (front_of kind name ss) (joined (line ∷ lines)) (codes "end" ++ 10 ∷ []) ∙ ap (λ x. front_of kind name ss ++ x) text)

-- ---- whole lines

pub between_so_far : (kind : TextKind) (name : Bytes) (ss : List Section) → is_name name ≡ true → All (IsSection kind) ss → AreOnce ss → StandsSoFar (front_of kind name ss)
between_so_far kind name ss named each once =
    let w = whole-bytes_of kind (head_line kind name) ss each in
    record { bytes = w.before; ended = w.ended; may = may_between kind name ss named each once }

pub inside_so_far : (kind : TextKind) (name : Bytes) (ss : List Section) (line : Bytes) (lines : List Bytes) (sk : SectionKind) (sn : Option Bytes) → is_name name ≡ true → All (IsSection kind) ss → AreOnce ss
    → IsHeader kind line sk sn → has_header ss line ≡ false → list_all is_line lines ≡ true → list_all (λ l. not (is_end l)) lines ≡ true → StandsSoFar (front_of kind name ss ++ joined (line ∷ lines))
inside_so_far kind name ss line lines sk sn named each once header new printable inside =
    let w : IsWhole (front_of kind name ss ++ joined (line ∷ lines)) = whole-append (front_of kind name ss) (joined (line ∷ lines)) (whole-joined line lines) in
    record { bytes = w.before; ended = w.ended; may = may_inside kind name ss line lines sk sn named each once header new printable inside }
