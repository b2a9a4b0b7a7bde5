-- A header line is read in one way.
use Rattle.std.proofs.Common.{◌≡◌, Bool, true, false, not, Option, None, Some, is_some, option_copied, Bor, refl, ap, sym, ◌∙◌, subst}
use mathlib.Core.Bool.{beq}
use Rattle.vd_base.specs.Name.{is_name}
use Rattle.vd_outline.specs.declared.outline.TextKind.{TextKind}
use Rattle.vd_outline.specs.declared.section.SectionKind.{SectionKind}
use Rattle.vd_outline.specs.Outline.{Bytes, section_word, takes_name, stands_in, header_line, IsNamed}
use Rattle.vd_outline.specs.Reading.{IsSplit, IsHeader}
use Rattle.vd_outline.specs.Words.{section_kind_from}
use Rattle.vd_outline.proofs.Cuts.{cut_unique, uncut}
use Rattle.vd_outline.proofs.WordLaws.{lacks_section_word, section_word_unique, section_kind_from-section_word}

unequal : (a b : Bool) → not (beq a b) ≡ true → a ≡ b → ⊥
unequal true true unlike same = cc
unequal true false unlike same = cc
unequal false true unlike same = cc
unequal false false unlike same = cc

-- a line is split in one way
pub split_header : (line word : Bytes) (name : Option Bytes) (kind : SectionKind) (other : Option Bytes) → IsSplit line word name → line ≡ header_line kind other → (word ≡ section_word kind) × (name ≡ other)
split_header line word None kind None split is = (sym split.0 ∙ is, refl)
split_header line word None kind (Some other) split is = absurd (uncut 32 word (section_word kind) other split.1 (sym split.0 ∙ is))
split_header line word (Some name) kind None split is = absurd (uncut 32 (section_word kind) word name (lacks_section_word 32 kind refl) (sym is ∙ split.0))
split_header line word (Some name) kind (Some other) split is =
    let both = cut_unique 32 word name (section_word kind) other split.1 (lacks_section_word 32 kind refl) (sym split.0 ∙ is) in
    (both.0, ap Some both.1)

split_line : (kind : SectionKind) (name : Option Bytes) → IsSplit (header_line kind name) (section_word kind) name
split_line kind None = (refl, lacks_section_word 32 kind refl)
split_line kind (Some name) = (refl, lacks_section_word 32 kind refl)

-- a header line tells one kind and one name
pub header_line_unique : (kind other : SectionKind) (name other_name : Option Bytes) → header_line kind name ≡ header_line other other_name → (kind ≡ other) × (name ≡ other_name)
header_line_unique kind other name other_name e =
    let both = split_header (header_line kind name) (section_word kind) name other other_name (split_line kind name) e in
    (section_word_unique kind other both.0, both.1)

-- the line is split into the word of this kind and what may be a name
pub record IsHeaded (line word : Bytes) (kind : SectionKind) (name : Option Bytes) : Type 0 where
  pub split : IsSplit line word name
  pub known : section_kind_from word ≡ Some kind

pub headed_same : (line word : Bytes) (kind : SectionKind) (name : Option Bytes) (text : TextKind) (other : SectionKind) (other_name : Option Bytes) → IsHeaded line word kind name → IsHeader text line other other_name → (other ≡ kind) × (other_name ≡ name)
headed_same line word kind name text other other_name h header =
    let both = split_header line word name other other_name h.split header.is in
    let known : Some other ≡ Some kind = sym (ap section_kind_from both.0 ∙ section_kind_from-section_word other) ∙ h.known in
    (cc, sym both.1)

pub no_section_word : (line word : Bytes) (name : Option Bytes) (text : TextKind) (kind : SectionKind) (other : Option Bytes) → IsSplit line word name → section_kind_from word ≡ None → IsHeader text line kind other → ⊥
no_section_word line word name text kind other split none header =
    let both = split_header line word name kind other split header.is in
    let known : section_kind_from word ≡ Some kind = ap section_kind_from both.0 ∙ section_kind_from-section_word kind in
    cc

pub not_standing : (line word : Bytes) (kind : SectionKind) (name : Option Bytes) (text : TextKind) (other : SectionKind) (other_name : Option Bytes) → IsHeaded line word kind name → stands_in kind text ≡ false → IsHeader text line other other_name → ⊥
not_standing line word kind name text other other_name h none header =
    let both = headed_same line word kind name text other other_name h header in
    let stands : stands_in kind text ≡ true = subst (λ k. stands_in k text ≡ true) both.0 header.stands in
    cc

takes-is_some : (kind : SectionKind) (name : Option Bytes) → IsNamed kind name → takes_name kind ≡ is_some name
takes-is_some kind None h = h
takes-is_some kind (Some name) h = h.0

pub not_named : (line word : Bytes) (kind : SectionKind) (name : Option Bytes) (text : TextKind) (other : SectionKind) (other_name : Option Bytes) → IsHeaded line word kind name → (takes_name kind ≡ is_some name → ⊥) → IsHeader text line other other_name → ⊥
not_named line word kind name text other other_name h none header =
    let both = headed_same line word kind name text other other_name h header in
    let named : takes_name other ≡ is_some other_name = takes-is_some other other_name header.named in
    none (ap takes_name (sym both.0) ∙ named ∙ ap is_some both.1)

pub not_name : (line word bytes : Bytes) (kind : SectionKind) (text : TextKind) (other : SectionKind) (other_name : Option Bytes) → IsHeaded line word kind (Some bytes) → is_name bytes ≡ false → IsHeader text line other other_name → ⊥
not_name line word bytes kind text other None h none header = let both = headed_same line word kind (Some bytes) text other None h header in let e = both.1 in cc
not_name line word bytes kind text other (Some name) h none header =
    let both = headed_same line word kind (Some bytes) text other (Some name) h header in
    let e : Some name ≡ Some bytes = both.1 in
    let same : name ≡ bytes = cc in
    let yes : is_name bytes ≡ true = ap is_name (sym same) ∙ header.named.1 in
    cc

-- one of the two, a name and a place for it, is missing
pub unlike_tests : {A : Type 0} (takes some : Bool) (name : Option (Bor A)) → not (beq takes some) ≡ true → some ≡ is_some name → takes ≡ is_some (option_copied name) → ⊥
unlike_tests takes some None unlike e same = unequal takes some unlike (same ∙ sym e)
unlike_tests takes some (Some name) unlike e same = unequal takes some unlike (same ∙ sym e)
