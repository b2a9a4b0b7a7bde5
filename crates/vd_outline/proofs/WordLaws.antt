-- Head lines and header lines are read in one way.
use Rattle.std.proofs.Common.{◌≡◌, ℕ, true, false, ◌∷◌, ◌++◌, Option, None, Some, refl, ap, sym, ◌∙◌}
use Rattle.std.specs.List.{list_all}
use Rattle.vd_base.specs.Name.{is_word_byte, is_name}
use Rattle.vd_outline.specs.declared.outline.TextKind.{TextKind}
use Rattle.vd_outline.specs.declared.outline.TextKind.TheVariants.{Interface, Unit as UnitText, Link}
use Rattle.vd_outline.specs.declared.section.SectionKind.{SectionKind}
use Rattle.vd_outline.specs.declared.section.SectionKind.TheVariants as section
use Rattle.vd_outline.specs.Lines.{lacks}
use Rattle.vd_outline.specs.Outline.{Bytes, kind_word, head_line, section_word, header_line, IsNamed, HasHead}
use Rattle.vd_outline.specs.Words.{text_kind_from, section_kind_from}
use Rattle.vd_outline.proofs.Cuts.{lacks-append, lacks-word, words_of_name, cut_unique, uncut}

pub text_kind_from-kind_word : (kind : TextKind) → text_kind_from (kind_word kind) ≡ Some kind
text_kind_from-kind_word Interface = refl
text_kind_from-kind_word UnitText = refl
text_kind_from-kind_word Link = refl

pub section_kind_from-section_word : (kind : SectionKind) → section_kind_from (section_word kind) ≡ Some kind
section_kind_from-section_word section.Uses = refl
section_kind_from-section_word section.Exports = refl
section_kind_from-section_word section.Units = refl
section_kind_from-section_word section.Struct = refl
section_kind_from-section_word section.Global = refl
section_kind_from-section_word section.Abstract = refl
section_kind_from-section_word section.Pred = refl
section_kind_from-section_word section.Spec = refl
section_kind_from-section_word section.Fn = refl
section_kind_from-section_word section.Script = refl
section_kind_from-section_word section.Sub = refl
section_kind_from-section_word section.Init = refl

pub word_bytes-kind_word : (kind : TextKind) → list_all is_word_byte (kind_word kind) ≡ true
word_bytes-kind_word Interface = refl
word_bytes-kind_word UnitText = refl
word_bytes-kind_word Link = refl

pub word_bytes-section_word : (kind : SectionKind) → list_all is_word_byte (section_word kind) ≡ true
word_bytes-section_word section.Uses = refl
word_bytes-section_word section.Exports = refl
word_bytes-section_word section.Units = refl
word_bytes-section_word section.Struct = refl
word_bytes-section_word section.Global = refl
word_bytes-section_word section.Abstract = refl
word_bytes-section_word section.Pred = refl
word_bytes-section_word section.Spec = refl
word_bytes-section_word section.Fn = refl
word_bytes-section_word section.Script = refl
word_bytes-section_word section.Sub = refl
word_bytes-section_word section.Init = refl

pub kind_word_unique : (kind other : TextKind) → kind_word kind ≡ kind_word other → kind ≡ other
kind_word_unique kind other e =
    let one = text_kind_from-kind_word kind in
    let two = text_kind_from-kind_word other in
    let both : Some kind ≡ Some other = sym one ∙ ap text_kind_from e ∙ two in
    cc

pub section_word_unique : (kind other : SectionKind) → section_word kind ≡ section_word other → kind ≡ other
section_word_unique kind other e =
    let one = section_kind_from-section_word kind in
    let two = section_kind_from-section_word other in
    let both : Some kind ≡ Some other = sym one ∙ ap section_kind_from e ∙ two in
    cc

lacks_kind_word : (byte : ℕ) (kind : TextKind) → is_word_byte byte ≡ false → lacks byte (kind_word kind) ≡ true
lacks_kind_word byte kind other = lacks-word byte (kind_word kind) other (word_bytes-kind_word kind)

pub lacks_section_word : (byte : ℕ) (kind : SectionKind) → is_word_byte byte ≡ false → lacks byte (section_word kind) ≡ true
lacks_section_word byte kind other = lacks-word byte (section_word kind) other (word_bytes-section_word kind)

lacks_name : (byte : ℕ) (name : Bytes) → is_word_byte byte ≡ false → is_name name ≡ true → lacks byte name ≡ true
lacks_name byte name other h = lacks-word byte name other (words_of_name name h)

pub lacks-head_line : (kind : TextKind) (name : Bytes) → is_name name ≡ true → lacks 10 (head_line kind name) ≡ true
lacks-head_line kind name h = lacks-append 10 (kind_word kind) (32 ∷ name) (lacks_kind_word 10 kind refl) (lacks_name 10 name refl h)

pub lacks-header_line : (kind : SectionKind) (name : Option Bytes) → IsNamed kind name → lacks 10 (header_line kind name) ≡ true
lacks-header_line kind None h = lacks_section_word 10 kind refl
lacks-header_line kind (Some name) h = lacks-append 10 (section_word kind) (32 ∷ name) (lacks_section_word 10 kind refl) (lacks_name 10 name refl h.1)

-- ---- head lines

-- a line that is a word, a space and more is the head line of that kind and name only
pub head_words : (line word bytes : Bytes) (kind : TextKind) (name : Bytes) → line ≡ word ++ 32 ∷ bytes → lacks 32 word ≡ true → line ≡ head_line kind name → (word ≡ kind_word kind) × (bytes ≡ name)
head_words line word bytes kind name cut one is = cut_unique 32 word bytes (kind_word kind) name one (lacks_kind_word 32 kind refl) (sym cut ∙ is)

pub head_line_unique : (kind other : TextKind) (name other_name : Bytes) → head_line kind name ≡ head_line other other_name → (kind ≡ other) × (name ≡ other_name)
head_line_unique kind other name other_name e =
    let both = cut_unique 32 (kind_word kind) name (kind_word other) other_name (lacks_kind_word 32 kind refl) (lacks_kind_word 32 other refl) e in
    (kind_word_unique kind other both.0, both.1)

-- the first line of a text with a head is the head line
pub first_is_head : (text line rest : Bytes) (kind : TextKind) (name : Bytes) → text ≡ line ++ 10 ∷ rest → lacks 10 line ≡ true → HasHead text kind name → line ≡ head_line kind name
first_is_head text line rest kind name cut one head = (cut_unique 10 line rest (head_line kind name) head.rest one (lacks-head_line kind name head.named) (sym cut ∙ head.cut)).0

pub no_space : (text line rest : Bytes) (kind : TextKind) (name : Bytes) → text ≡ line ++ 10 ∷ rest → lacks 10 line ≡ true → lacks 32 line ≡ true → HasHead text kind name → ⊥
no_space text line rest kind name cut one none head = uncut 32 line (kind_word kind) name none (first_is_head text line rest kind name cut one head)

-- the first line is a word, a space and more
pub record IsFirstLine (text word bytes rest : Bytes) : Type 0 where
  pub line : Bytes
  pub cut : text ≡ line ++ 10 ∷ rest
  pub one : lacks 10 line ≡ true
  pub parts : line ≡ word ++ 32 ∷ bytes
  pub first : lacks 32 word ≡ true

pub first_words : (text word bytes rest : Bytes) (kind : TextKind) (name : Bytes) → IsFirstLine text word bytes rest → HasHead text kind name → (word ≡ kind_word kind) × (bytes ≡ name)
first_words text word bytes rest kind name f head = head_words f.line word bytes kind name f.parts f.first (first_is_head text f.line rest kind name f.cut f.one head)

pub no_kind : (text word bytes rest : Bytes) (kind : TextKind) (name : Bytes) → IsFirstLine text word bytes rest → text_kind_from word ≡ None → HasHead text kind name → ⊥
no_kind text word bytes rest kind name f none head =
    let both = first_words text word bytes rest kind name f head in
    let two : text_kind_from word ≡ Some kind = ap text_kind_from both.0 ∙ text_kind_from-kind_word kind in
    cc

pub no_name : (text word bytes rest : Bytes) (kind : TextKind) (name : Bytes) → IsFirstLine text word bytes rest → is_name bytes ≡ false → HasHead text kind name → ⊥
no_name text word bytes rest kind name f none head =
    let both = first_words text word bytes rest kind name f head in
    let two : is_name bytes ≡ true = ap is_name both.1 ∙ head.named in
    cc
