-- Where reading stops, a text is bad.
use Rattle.std.proofs.Common.{◌≡◌, ◌⊎◌, ℕ, ◌+◌, ◌-◌, true, false, List, [], ◌∷◌, ◌++◌, length, codes, Option, refl, ap, sym, ◌∙◌, subst, append_assoc, append-nil, length-append, arith, inl, inr}
use Rattle.std.specs.Prelude.{All}
use Rattle.std.specs.List.{list_all}
use Rattle.std.proofs.lemmas.List.Elements.{All-head}
use Rattle.vd_base.specs.Name.{is_name}
use Rattle.vd_outline.specs.declared.outline.Outline.{Outline}
use Rattle.vd_outline.specs.declared.outline.TextKind.{TextKind}
use Rattle.vd_outline.specs.declared.outline.TextKind.TheVariants.{Interface, Unit as UnitText, Link}
use Rattle.vd_outline.specs.declared.section.Section.{Section}
use Rattle.vd_outline.specs.declared.section.SectionKind.{SectionKind}
use Rattle.vd_outline.specs.Fault.{StandsSoFar, IsMisplaced, IsUnended, IsUnfinished, IsBadAt}
use Rattle.vd_outline.specs.Lines.{lacks, is_line, joined}
use Rattle.vd_outline.specs.Outline.{Bytes, head_line, header_line, IsSection, AreOnce, HasUnits, Outlines}
use Rattle.vd_outline.specs.Reading.{HasInner, IsHeader, BeginsBadly, StopsAtHeader, StopsInside, SectionStops, SectionsStop, has_header}
use Rattle.vd_outline.proofs.Cuts.{cut_unique, lacks-line, and-true-left}
use Rattle.vd_outline.proofs.WordLaws.{lacks-header_line}
use Rattle.vd_outline.proofs.BodyLaws.{GoesOn, goes_on}
use Rattle.vd_outline.proofs.SectionLaws.{bytes_of, behind_header, inner_of, header_cut, some_text, once_before}
use Rattle.vd_outline.proofs.Beginnings.{front_of, front-append, HasBegun, begun, between_so_far, inside_so_far}

-- what was read of a text before reading stopped
pub record WasRead (text : Bytes) (kind : TextKind) (name : Bytes) (ss : List Section) (rest : Bytes) : Type 0 where
  pub cut : text ≡ front_of kind name ss ++ rest
  pub named : is_name name ≡ true
  pub each : All (IsSection kind) ss
  pub once : AreOnce ss

-- the section with which the line begins
record IsNext (kind : TextKind) (others : List Section) (line rest : Bytes) : Type 0 where
  s : Section
  us : List Section
  are : others ≡ s ∷ us
  is : IsSection kind s
  header : line ≡ header_line s.kind s.name
  body : rest ≡ behind_header kind s is (bytes_of us)

next_of : (kind : TextKind) (others : List Section) (line rest : Bytes) → All (IsSection kind) others → lacks 10 line ≡ true → line ++ 10 ∷ rest ≡ bytes_of others → IsNext kind others line rest
next_of kind [] line rest each one e = absurd (let long : length line + length (10 ∷ rest) ≡ 0 = sym (length-append line (10 ∷ rest)) ∙ ap length e in omega arith)
next_of kind (s ∷ us) line rest each one e =
    let i : IsSection kind s = All-head (IsSection kind) s us each in
    let both = header_cut kind s i (bytes_of us) line rest one e in
    record { s = s; us = us; are = refl; is = i; header = both.0; body = both.1 }

-- sections without bytes are none
pub no_bytes : (kind : TextKind) (others : List Section) → All (IsSection kind) others → bytes_of others ≡ [] → others ≡ []
no_bytes kind [] each e = refl
no_bytes kind (s ∷ us) each e = absurd (some_text kind s (bytes_of us) (All-head (IsSection kind) s us each) e)

link_has_units : (kind : TextKind) (ss : List Section) → HasUnits kind ss → kind ≡ Link → ss ≡ [] → ⊥
link_has_units Interface ss units link none = cc
link_has_units UnitText ss units link none = cc
link_has_units Link ss units link none = let one = units.1 in cc

-- a line that is none is neither a line of a section nor its last
unprintable : (line rest : Bytes) (ms : List Bytes) (tail : Bytes) → lacks 10 line ≡ true → is_line line ≡ false → line ++ 10 ∷ rest ≡ joined ms ++ (codes "end" ++ 10 ∷ tail) → list_all is_line ms ≡ true → ⊥
unprintable line rest [] tail one none e printable =
    let same : line ≡ codes "end" = (cut_unique 10 line rest (codes "end") tail one refl e).0 in
    let yes : is_line line ≡ true = ap is_line same in
    cc
unprintable line rest (m ∷ ms) tail one none e printable =
    let first : is_line m ≡ true = and-true-left (is_line m) (list_all is_line ms) printable in
    let same : line ≡ m = (cut_unique 10 line rest m (joined ms ++ (codes "end" ++ 10 ∷ tail)) one (lacks-line m first) (e ∙ append_assoc m (10 ∷ joined ms) (codes "end" ++ 10 ∷ tail))).0 in
    let yes : is_line line ≡ true = ap is_line same ∙ first in
    cc

module _ (text : Bytes) (kind : TextKind) (name : Bytes) (ss : List Section) (rest : Bytes) (r : WasRead text kind name ss rest) where
  -- ---- behind whole sections

  so_far : StandsSoFar (front_of kind name ss)
  so_far = between_so_far kind name ss r.named r.each r.once

  -- the sections behind those read, where a text goes on with a line
  record GoesOnWith (line more : Bytes) : Type 0 where
    others : List Section
    once : AreOnce (ss ++ others)
    next : IsNext kind others line more

  behind : (line more : Bytes) (o : Outline) → lacks 10 line ≡ true → Outlines (front_of kind name ss ++ (line ++ 10 ∷ more)) o → GoesOnWith line more
  behind line more o one h =
      let b : HasBegun kind name ss (line ++ 10 ∷ more) o = begun kind name ss (line ++ 10 ∷ more) o r.named r.each h in
      record { others = b.others; once = b.once; next = next_of kind b.others line more b.each one b.cut }

  is_header : (line more : Bytes) (g : GoesOnWith line more) → IsHeader kind line g.next.s.kind g.next.s.name
  is_header line more g = record { is = g.next.header; named = g.next.is.named; stands = g.next.is.stands }

  -- the header line of a further section is new
  is_new : (line more : Bytes) → GoesOnWith line more → has_header ss line ≡ false
  is_new line more g = ap (has_header ss) g.next.header ∙ once_before ss g.next.s g.next.us (subst (λ x. AreOnce (ss ++ x)) g.next.are g.once)

  bad_header : StopsAtHeader kind (has_header ss) rest → IsMisplaced text (length (front_of kind name ss))
  bad_header at = record {
    front = front_of kind name ss;
    line = at.line;
    rest = at.rest;
    cut = r.cut ∙ ap (λ x. front_of kind name ss ++ x) at.cut;
    one = at.one;
    so_far = so_far;
    not_more = λ may.
        let cut : (front_of kind name ss ++ (at.line ++ 10 ∷ [])) ++ may.0 ≡ front_of kind name ss ++ (at.line ++ 10 ∷ may.0) =
        append_assoc (front_of kind name ss) (at.line ++ 10 ∷ []) may.0 ∙ ap (λ x. front_of kind name ss ++ x) (append_assoc at.line (10 ∷ []) may.0) in
        let g : GoesOnWith at.line may.0 = behind at.line may.0 may.1 at.one (subst (λ t. Outlines t may.1) cut may.2) in
        let seen : has_header ss at.line ≡ true = at.bad g.next.s.kind g.next.s.name (is_header at.line may.0 g) in
        let new : has_header ss at.line ≡ false = is_new at.line may.0 g in
        (cc);
    at = refl;
  }

  no_feed : lacks 10 rest ≡ true → (rest ≡ [] → ⊥) → IsUnended text (length (front_of kind name ss))
  no_feed one some = record { front = front_of kind name ss; line = rest; cut = r.cut; one = one; some = some; so_far = so_far; at = refl }

  -- a link without its units
  link_ends : rest ≡ [] → kind ≡ Link → ss ≡ [] → IsUnfinished text (length text)
  link_ends end link none =
      let tail : text ≡ front_of kind name ss ++ [] = r.cut ∙ ap (λ x. front_of kind name ss ++ x) end in
      record {
        so_far = subst StandsSoFar (sym (tail ∙ append-nil (front_of kind name ss))) so_far;
        not_whole = λ o h.
            let b : HasBegun kind name ss [] o = begun kind name ss [] o r.named r.each (subst (λ t. Outlines t o) tail h) in
            link_has_units o.kind o.sections h.units (b.kinds ∙ link) (b.are ∙ ap (λ x. x ++ b.others) none ∙ no_bytes kind b.others b.each (sym b.cut));
        at = refl;
      }

  -- ---- within a section

  -- the bytes up to a line within the section
  abbrev up_to : Bytes → List Bytes → Bytes
  up_to line lines = front_of kind name ss ++ joined (line ∷ lines)

  module _ (line after : Bytes) (lines : List Bytes) (rest' : Bytes) (sk : SectionKind) (sn : Option Bytes)
      (cut : rest ≡ line ++ 10 ∷ after) (header : IsHeader kind line sk sn) (new : has_header ss line ≡ false) (inner : HasInner after lines rest') where
    line_lacks : lacks 10 line ≡ true
    line_lacks = subst (λ x. lacks 10 x ≡ true) (sym header.is) (lacks-header_line sk sn header.named)

    inside_cut : text ≡ up_to line lines ++ rest'
    inside_cut = r.cut ∙ ap (λ x. front_of kind name ss ++ x) (cut ∙ ap (λ x. line ++ 10 ∷ x) inner.cut ∙ sym (append_assoc line (10 ∷ joined lines) rest'))
        ∙ sym (append_assoc (front_of kind name ss) (joined (line ∷ lines)) rest')

    inside_so : StandsSoFar (up_to line lines)
    inside_so = inside_so_far kind name ss line lines sk sn r.named r.each r.once header new inner.printable inner.inside

    -- what follows in a text with an outline is the rest of that section
    section_rest : (more : Bytes) (o : Outline) → Outlines (up_to line lines ++ more) o → (ms : List Bytes) × (tail : Bytes) × (more ≡ joined ms ++ (codes "end" ++ 10 ∷ tail)) × (list_all is_line ms ≡ true)
    section_rest more o h =
        let e : up_to line lines ++ more ≡ front_of kind name ss ++ (line ++ 10 ∷ (joined lines ++ more)) =
        append_assoc (front_of kind name ss) (joined (line ∷ lines)) more ∙ ap (λ x. front_of kind name ss ++ x) (append_assoc line (10 ∷ joined lines) more) in
        let g : GoesOnWith line (joined lines ++ more) = behind line (joined lines ++ more) o line_lacks (subst (λ t. Outlines t o) e h) in
        let n = g.next in
        let w : GoesOn (joined lines ++ more) lines more n.is.lines (bytes_of n.us) = goes_on (joined lines ++ more) lines more n.is.lines (bytes_of n.us)
        (record { cut = refl; printable = inner.printable; inside = inner.inside }) (inner_of kind n.s n.is (bytes_of n.us) (joined lines ++ more) n.body) in
        (w.more, bytes_of n.us, w.cut, w.printable)

    bad_line : BeginsBadly rest' → IsMisplaced text (length (up_to line lines))
    bad_line b = record {
      front = up_to line lines;
      line = b.line;
      rest = b.rest;
      cut = inside_cut ∙ ap (λ x. up_to line lines ++ x) b.cut;
      one = b.one;
      so_far = inside_so;
      not_more = λ may.
          let e : (up_to line lines ++ (b.line ++ 10 ∷ [])) ++ may.0 ≡ up_to line lines ++ (b.line ++ 10 ∷ may.0) =
          append_assoc (up_to line lines) (b.line ++ 10 ∷ []) may.0 ∙ ap (λ x. up_to line lines ++ x) (append_assoc b.line (10 ∷ []) may.0) in
          let m = section_rest (b.line ++ 10 ∷ may.0) may.1 (subst (λ t. Outlines t may.1) e may.2) in
          unprintable b.line may.0 m.0 m.1 b.one b.unprintable m.2 m.3;
      at = refl;
    }

    no_end : rest' ≡ [] → IsUnfinished text (length text)
    no_end end =
        let tail : text ≡ up_to line lines ++ [] = inside_cut ∙ ap (λ x. up_to line lines ++ x) end in
        record {
          so_far = subst StandsSoFar (sym (tail ∙ append-nil (up_to line lines))) inside_so;
          not_whole = λ o h.
              let m = section_rest [] o (subst (λ t. Outlines t o) tail h) in
              let long : 0 ≡ length (joined m.0) + length (codes "end" ++ 10 ∷ m.1) = ap length m.2 ∙ length-append (joined m.0) (codes "end" ++ 10 ∷ m.1) in
              (omega arith);
          at = refl;
        }

    no_feed_inside : lacks 10 rest' ≡ true → (rest' ≡ [] → ⊥) → IsUnended text (length (up_to line lines))
    no_feed_inside one some = record { front = up_to line lines; line = rest'; cut = inside_cut; one = one; some = some; so_far = inside_so; at = refl }

-- ---- the place

placed : (P : ℕ → Type 0) (text front rest : Bytes) (left : ℕ) → text ≡ front ++ rest → left ≡ length rest → P (length front) → P (length text - left)
placed P text front rest left cut counted p =
    let long : length text ≡ length front + length rest = ap length cut ∙ length-append front rest in
    let at : length front ≡ length text - left = omega arith in
    subst P at p

unended_or_not : (P : Type 0) (rest : Bytes) → (rest ≡ [] → P) → ((rest ≡ [] → ⊥) → P) → P
unended_or_not P [] none some = none refl
unended_or_not P (b ∷ rest) none some = some (λ e. cc)

-- a text is bad where reading stops within a section
inside_bad : (text : Bytes) (kind : TextKind) (name : Bytes) (ss : List Section) (rest : Bytes) (left : ℕ) → WasRead text kind name ss rest → (at : StopsInside kind (has_header ss) rest left)
    → (lacks 10 at.stops.rest ≡ true) ⊎ BeginsBadly at.stops.rest → IsBadAt text (length text - left)
inside_bad text kind name ss rest left r at (inl one) =
    let cut = inside_cut text kind name ss rest r at.line at.rest at.stops.lines at.stops.rest at.section at.name at.cut at.header at.is_new at.stops.inner in
    unended_or_not (IsBadAt text (length text - left)) at.stops.rest
    (λ none. placed (IsBadAt text) text text [] left (sym (append-nil text)) (at.stops.counted ∙ ap length none)
    (inr (inr (no_end text kind name ss rest r at.line at.rest at.stops.lines at.stops.rest at.section at.name at.cut at.header at.is_new at.stops.inner none))))
    (λ some. placed (IsBadAt text) text (front_of kind name ss ++ joined (at.line ∷ at.stops.lines)) at.stops.rest left cut at.stops.counted
    (inr (inl (no_feed_inside text kind name ss rest r at.line at.rest at.stops.lines at.stops.rest at.section at.name at.cut at.header at.is_new at.stops.inner one some))))
inside_bad text kind name ss rest left r at (inr b) =
    let cut = inside_cut text kind name ss rest r at.line at.rest at.stops.lines at.stops.rest at.section at.name at.cut at.header at.is_new at.stops.inner in
    placed (IsBadAt text) text (front_of kind name ss ++ joined (at.line ∷ at.stops.lines)) at.stops.rest left cut at.stops.counted
    (inl (bad_line text kind name ss rest r at.line at.rest at.stops.lines at.stops.rest at.section at.name at.cut at.header at.is_new at.stops.inner b))

-- a text is bad where reading a section within it stops
section_bad : (text : Bytes) (kind : TextKind) (name : Bytes) (ss : List Section) (rest : Bytes) (left : ℕ) → WasRead text kind name ss rest → (rest ≡ [] → ⊥) → SectionStops kind (has_header ss) rest left → IsBadAt text (length text - left)
section_bad text kind name ss rest left r some (inl none) =
    placed (IsBadAt text) text (front_of kind name ss) rest left r.cut none.1 (inr (inl (no_feed text kind name ss rest r none.0 some)))
section_bad text kind name ss rest left r some (inr (inl at)) =
    placed (IsBadAt text) text (front_of kind name ss) rest left r.cut at.1 (inl (bad_header text kind name ss rest r at.0))
section_bad text kind name ss rest left r some (inr (inr at)) = inside_bad text kind name ss rest left r at at.stops.bad

stop_bad : (text : Bytes) (kind : TextKind) (name : Bytes) (ss : List Section) (rest : Bytes) (left : ℕ) → WasRead text kind name ss rest
    → ((rest ≡ [] → ⊥) × SectionStops kind (has_header ss) rest left) ⊎ ((rest ≡ []) × (kind ≡ Link) × (ss ≡ []) × (left ≡ 0)) → IsBadAt text (length text - left)
stop_bad text kind name ss rest left r (inl at) = section_bad text kind name ss rest left r at.0 at.1
stop_bad text kind name ss rest left r (inr at) =
    placed (IsBadAt text) text text [] left (sym (append-nil text)) at.3 (inr (inr (link_ends text kind name ss rest r at.0 at.1 at.2)))

pub sections_bad : (text : Bytes) (kind : TextKind) (name bytes : Bytes) (left : ℕ) → text ≡ head_line kind name ++ 10 ∷ bytes → is_name name ≡ true → SectionsStop kind bytes left → IsBadAt text (length text - left)
sections_bad text kind name bytes left cut named stop =
    let r : WasRead text kind name stop.sections stop.rest = record {
      cut = cut ∙ ap (λ x. head_line kind name ++ 10 ∷ x) stop.cut ∙ sym (front-append kind name stop.sections stop.rest);
      named = named;
      each = stop.each;
      once = stop.once;
    } in
    stop_bad text kind name stop.sections stop.rest left r stop.stops
