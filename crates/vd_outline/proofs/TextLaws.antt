-- What holds of heads, outlines and faults of a text.
use Rattle.std.proofs.Common.{◌≡◌, ℕ, ◌+◌, ◌-◌, ◌≤◌, ◌^◌, min, Bool, true, List, [], ◌∷◌, ◌++◌, length, refl, ap, sym, ◌∙◌, subst, append_assoc, append-nil, length-append, arith, inl, inr}
use Rattle.vd_base.specs.Name.{is_name}
use Rattle.vd_outline.specs.declared.outline.Outline.{Outline}
use Rattle.vd_outline.specs.declared.outline.OutlineFault.{OutlineFault}
use Rattle.vd_outline.specs.declared.outline.OutlineFault.TheVariants.{NoHead}
use Rattle.vd_outline.specs.declared.outline.OutlineFault.TheVariants as outline
use Rattle.vd_outline.specs.declared.outline.TextKind.{TextKind}
use Rattle.vd_outline.specs.declared.reading.SectionFault.{SectionFault}
use Rattle.vd_outline.specs.declared.reading.SectionFault.TheVariants.{Bad}
use Rattle.vd_outline.specs.declared.section.Section.{Section}
use Rattle.vd_outline.specs.Fault.{MayBegin, StandsSoFar, IsMisplaced, IsUnended, IsUnfinished, IsBadAt, IsBad, IsMemory}
use Rattle.vd_outline.specs.Lines.{joined}
use Rattle.vd_outline.specs.Outline.{Bytes, head_line, HasHead, Outlines}
use Rattle.vd_outline.specs.Reading.{AreSections, SectionStops, SectionsStop, has_header}
use Rattle.vd_outline.proofs.Cuts.{cut_unique}
use Rattle.vd_outline.proofs.WordLaws.{lacks-head_line, head_line_unique}
use Rattle.vd_outline.proofs.SectionLaws.{bytes_of}
use Rattle.vd_outline.proofs.Beginnings.{front_of, HasBegun, begun}
use Rattle.vd_outline.proofs.Ends.{IsWhole, whole-bytes_of, whole_end, not_whole, has_line, reaches, stays}
use Rattle.vd_outline.proofs.FaultLaws.{no_bytes, sections_bad}

-- ---- one head and one outline

pub one_head : (text : Bytes) (kind other : TextKind) (name other_name : Bytes) → HasHead text kind name → HasHead text other other_name → (kind ≡ other) × (name ≡ other_name)
one_head text kind other name other_name h k =
    let both = cut_unique 10 (head_line kind name) h.rest (head_line other other_name) k.rest (lacks-head_line kind name h.named) (lacks-head_line other other_name k.named) (sym h.cut ∙ k.cut) in
    head_line_unique kind other name other_name both.0

made : TextKind → Bytes → List Section → Outline
made kind name ss = record { kind = kind; name = name; sections = ss }

same_outline : (o p : Outline) → o.kind ≡ p.kind → o.name ≡ p.name → o.sections ≡ p.sections → o ≡ p
unfolding made
same_outline o p k n s = ap (λ z. made z o.name o.sections) k ∙ ap (λ z. made p.kind z o.sections) n ∙ ap (λ z. made p.kind p.name z) s

pub one_outline : (text : Bytes) (o other : Outline) → Outlines text o → Outlines text other → o ≡ other
one_outline text o other h k =
    let b : HasBegun o.kind o.name o.sections [] other = begun o.kind o.name o.sections [] other h.named h.sections
    (subst (λ t. Outlines t other) (h.bytes ∙ sym (append-nil (front_of o.kind o.name o.sections))) k) in
    same_outline o other (sym b.kinds) (sym b.names) (sym (b.are ∙ ap (λ x. o.sections ++ x) (no_bytes o.kind b.others b.each (sym b.cut)) ∙ append-nil o.sections))

-- ---- faults

-- a text with an outline is whole lines
whole_outlined : (text : Bytes) (o : Outline) → Outlines text o → IsWhole text
whole_outlined text o h = subst IsWhole (sym h.bytes) (whole-bytes_of o.kind (head_line o.kind o.name) o.sections h.sections)

pub no_outline : (text : Bytes) (place : ℕ) (o : Outline) → IsBadAt text place → Outlines text o → ⊥
no_outline text place o (inl m) h =
    let cut : text ≡ (m.front ++ (m.line ++ 10 ∷ [])) ++ m.rest =
    m.cut ∙ ap (λ x. m.front ++ x) (sym (append_assoc m.line (10 ∷ []) m.rest)) ∙ sym (append_assoc m.front (m.line ++ 10 ∷ []) m.rest) in
    m.not_more (m.rest, o, subst (λ t. Outlines t o) cut h)
no_outline text place o (inr (inl u)) h =
    let w : IsWhole text = whole_outlined text o h in
    not_whole u.line u.one (whole_end u.front u.line w.before u.some (sym u.cut ∙ w.ended))
no_outline text place o (inr (inr u)) h = u.not_whole o h

-- the last place up to which a text's lines may stand
record IsLast (text : Bytes) (place : ℕ) : Type 0 where
  front : Bytes
  rest : Bytes
  cut : text ≡ front ++ rest
  so_far : StandsSoFar front
  at : place ≡ length front
  last : (longer more : Bytes) → StandsSoFar longer → text ≡ longer ++ more → length longer ≤ place

whole_cut : (longer more : Bytes) (s : StandsSoFar longer) → longer ++ more ≡ s.bytes ++ 10 ∷ more
whole_cut longer more s = ap (λ x. x ++ more) s.ended ∙ append_assoc s.bytes (10 ∷ []) more

shorter_begins : (front more : Bytes) → MayBegin (front ++ more) → MayBegin front
shorter_begins front more may = (more ++ may.0, may.1, subst (λ t. Outlines t may.1) (append_assoc front more may.0) may.2)

misplaced_last : (text : Bytes) (place : ℕ) → IsMisplaced text place → IsLast text place
misplaced_last text place m = record {
  front = m.front;
  rest = m.line ++ 10 ∷ m.rest;
  cut = m.cut;
  so_far = m.so_far;
  at = m.at;
  last = λ longer more s cut. elim (reaches s.bytes more m.front m.line m.rest m.one (sym (whole_cut longer more s) ∙ sym cut ∙ m.cut)) [
    | inl le ↦ (let long : length longer ≡ length (s.bytes ++ 10 ∷ []) = ap length s.ended in omega (arith, m.at))
    | inr past ↦
        let split : longer ≡ (m.front ++ (m.line ++ 10 ∷ [])) ++ past.0 =
        s.ended ∙ past.1 ∙ ap (λ x. m.front ++ x) (sym (append_assoc m.line (10 ∷ []) past.0)) ∙ sym (append_assoc m.front (m.line ++ 10 ∷ []) past.0) in
        absurd (m.not_more (shorter_begins (m.front ++ (m.line ++ 10 ∷ [])) past.0 (subst MayBegin split s.may)))
  ];
}

unended_last : (text : Bytes) (place : ℕ) → IsUnended text place → IsLast text place
unended_last text place u = record {
  front = u.front;
  rest = u.line;
  cut = u.cut;
  so_far = u.so_far;
  at = u.at;
  last = λ longer more s cut.
      let le : length (s.bytes ++ 10 ∷ []) ≤ length u.front = stays s.bytes more u.front u.line u.one (sym (whole_cut longer more s) ∙ sym cut ∙ u.cut) in
      let long : length longer ≡ length (s.bytes ++ 10 ∷ []) = ap length s.ended in
      (omega (arith, u.at));
}

unfinished_last : (text : Bytes) (place : ℕ) → IsUnfinished text place → IsLast text place
unfinished_last text place u = record {
  front = text;
  rest = [];
  cut = sym (append-nil text);
  so_far = u.so_far;
  at = u.at;
  last = λ longer more s cut. (let long : length text ≡ length longer + length more = ap length cut ∙ length-append longer more in omega (arith, u.at));
}

last_of : (text : Bytes) (place : ℕ) → IsBadAt text place → IsLast text place
last_of text place (inl m) = misplaced_last text place m
last_of text place (inr (inl u)) = unended_last text place u
last_of text place (inr (inr u)) = unfinished_last text place u

pub one_fault : (text : Bytes) (place other : ℕ) → IsBadAt text place → IsBadAt text other → place ≡ other
one_fault text place other h k =
    let a : IsLast text place = last_of text place h in
    let b : IsLast text other = last_of text other k in
    let le : length b.front ≤ place = a.last b.front b.rest b.so_far b.cut in
    let ge : length a.front ≤ other = b.last a.front a.rest a.so_far a.cut in
    omega (arith, a.at, b.at)

-- whole lines that may begin a text have its head line
begins_with_head : (front rest : Bytes) (s : StandsSoFar front) → (kind : TextKind) × (name : Bytes) × HasHead (front ++ rest) kind name
begins_with_head front rest s =
    let more = s.may.0 in
    let o = s.may.1 in
    let h = s.may.2 in
    let y = has_line s.bytes more (head_line o.kind o.name) (bytes_of o.sections) (lacks-head_line o.kind o.name h.named) (sym (whole_cut front more s) ∙ h.bytes) in (
      o.kind,
      o.name,
      record {
        rest = y.0 ++ rest;
        cut = ap (λ x. x ++ rest) (s.ended ∙ y.1) ∙ append_assoc (head_line o.kind o.name) (10 ∷ y.0) rest;
        named = h.named;
      },
    )

pub has_head : (text : Bytes) (place : ℕ) → IsBadAt text place → (kind : TextKind) × (name : Bytes) × HasHead text kind name
has_head text place h =
    let a : IsLast text place = last_of text place h in
    let b = begins_with_head a.front a.rest a.so_far in
    (b.0, b.1, subst (λ t. HasHead t b.0 b.1) (sym a.cut) b.2)

-- ---- what the reader leaves

section_within : (kind : TextKind) (seen : Bytes → Bool) (bytes : Bytes) (left : ℕ) → SectionStops kind seen bytes left → left ≤ length bytes
section_within kind seen bytes left (inl none) = omega (arith, none.1)
section_within kind seen bytes left (inr (inl at)) = omega (arith, at.1)
section_within kind seen bytes left (inr (inr at)) =
    let long : length bytes ≡ length at.line + length (10 ∷ at.rest) = ap length at.cut ∙ length-append at.line (10 ∷ at.rest) in
    let after : length at.rest ≡ length (joined at.stops.lines) + length at.stops.rest = ap length at.stops.inner.cut ∙ length-append (joined at.stops.lines) at.stops.rest in
    omega (arith, at.stops.counted)

pub sections_within : (kind : TextKind) (bytes : Bytes) (left : ℕ) (line : Bytes) (text : Bytes) → text ≡ line ++ 10 ∷ bytes → SectionsStop kind bytes left → left ≤ length text
sections_within kind bytes left line text cut s =
    let whole : length text ≡ length line + length (10 ∷ bytes) = ap length cut ∙ length-append line (10 ∷ bytes) in
    let long : length bytes ≡ length (bytes_of s.sections) + length s.rest = ap length s.cut ∙ length-append (bytes_of s.sections) s.rest in
    elim s.stops [
      | inl at ↦ omega (arith, section_within kind (has_header s.sections) s.rest left at.1)
      | inr at ↦ omega (arith, at.3)
    ]

-- a text with an outline has a head line
pub head_of_outline : (text : Bytes) (o : Outline) → Outlines text o → HasHead text o.kind o.name
head_of_outline text o h = record { rest = bytes_of o.sections; cut = h.bytes; named = h.named }

pub outlines : (text : Bytes) (kind : TextKind) (name bytes : Bytes) (ss : List Section) → text ≡ head_line kind name ++ 10 ∷ bytes → is_name name ≡ true → AreSections kind bytes ss → Outlines text (record { kind = kind; name = name; sections = ss })
outlines text kind name bytes ss cut named s = record { named = named; bytes = cut ∙ ap (λ x. head_line kind name ++ 10 ∷ x) s.cut; sections = s.each; once = s.once; units = s.units }

-- a text whose sections are not read is bad, at the place that is told
pub told_bad : (text slice : Bytes) (kind : TextKind) (name bytes : Bytes) (fault : SectionFault) (told : ℕ) → slice ≡ text → text ≡ head_line kind name ++ 10 ∷ bytes → is_name name ≡ true
    → ((left : ℕ) → fault ≡ Bad left → SectionsStop kind bytes left) → (left : ℕ) × (fault ≡ Bad left) × (told ≡ min (length slice - left) (2 ^ 32 - 1)) → IsBad text told
told_bad text slice kind name bytes fault told same cut named stop at =
    (length text - at.0, at.2 ∙ ap (λ x. min (length x - at.0) (2 ^ 32 - 1)) same, sections_bad text kind name bytes at.0 cut named (stop at.0 at.1))

memory_left : (fault : OutlineFault) → (fault ≡ NoHead → ⊥) → ((place : ℕ) → fault ≡ outline.Bad place → ⊥) → IsMemory fault
memory_left NoHead head bad = head refl
memory_left (outline.Bad place) head bad = bad place refl
memory_left (outline.Memory fault) head bad = tt

-- where a text has an outline, its sections are not read for want of memory alone
pub told_memory : (text slice : Bytes) (kind : TextKind) (name bytes : Bytes) (fault : SectionFault) (told : OutlineFault) (o : Outline) → slice ≡ text → text ≡ head_line kind name ++ 10 ∷ bytes → is_name name ≡ true
    → ((left : ℕ) → fault ≡ Bad left → SectionsStop kind bytes left) → (told ≡ NoHead → ⊥)
    → ((place : ℕ) → told ≡ outline.Bad place → (left : ℕ) × (fault ≡ Bad left) × (place ≡ min (length slice - left) (2 ^ 32 - 1))) → Outlines text o → IsMemory told
told_memory text slice kind name bytes fault told o same cut named stop head at whole =
    memory_left told head (λ place e.
    let bad : IsBad text place = told_bad text slice kind name bytes fault place same cut named stop (at place e) in
    (no_outline text bad.0 o bad.2 whole))
