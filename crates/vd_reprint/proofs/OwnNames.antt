-- What a section takes for its own name, and for the line that ends it.
use Rattle.std.proofs.Common.{ℕ, ◌≡◌, Bool, true, false, List, [], ◌∷◌, Option, Some, None, refl, sym, subst}
use Rattle.std.specs.Prelude.{if◌then◌else◌}
use Rattle.std.specs.Str.{bytes_eq}
use Rattle.std.specs.Cmp.Lexicographic.{same_text}
use Rattle.vd_base.specs.Name.{is_name}
use Rattle.vd_tokens.specs.declared.alphabet.Alphabet.TheVariants.{C}
use Rattle.vd_tokens.specs.declared.token.TokenKind.{TokenKind}
use Rattle.vd_tokens.specs.declared.token.TokenKind.TheVariants as shape
use Rattle.vd_tokens.specs.Lexeme.{Lexeme as Token}
use Rattle.vd_tokens.specs.Shapes.{shape_of}
use Rattle.vd_cgrammar.specs.declared.kind.Kind.{Kind}
use Rattle.vd_cgrammar.specs.declared.kind.Kind.TheVariants as k
use Rattle.vd_cgrammar.specs.Kinds.{same}
use Rattle.vd_cgrammar.specs.Lexeme.{Lexeme}
use Rattle.vd_cgrammar.specs.Words.{kind_in, type_words, statement_words, reserved_words, name_kind, word_kind, is_header_name, separators, operators, double_operators, sign_kind, is_length, number_in, number_kind, lexeme_as, lexemes_in}
use Rattle.vd_cgrammar.specs.Vocabularies.{token_shape, lexeme_at}

-- no entry of the table is of the kind
abbrev none_of : Kind → List (List ℕ × Kind) → Bool
none_of one [] = true
none_of one (entry ∷ table) = if same one entry.1 then false else none_of one table

-- the kind comes from what stands behind the table
kind_last : (one : Kind) (table : List (List ℕ × Kind)) (last : Kind) (w : List ℕ) → none_of one table ≡ true → same one (kind_in table last w) ≡ true → same one last ≡ true
kind_last one [] last w h g = g
kind_last one (entry ∷ table) last w h g = by_entry (bytes_eq w entry.0) (same one entry.1) refl h g (λ r q. kind_last one table last w r q)
  where
    by_entry : (t b : Bool) → same one entry.1 ≡ b → (if b then false else none_of one table) ≡ true → same one (if t then entry.1 else kind_in table last w) ≡ true
        → (none_of one table ≡ true → same one (kind_in table last w) ≡ true → same one last ≡ true) → same one last ≡ true
    by_entry t true e r q ih = absurd (cc)
    by_entry true false e r q ih = absurd (cc)
    by_entry false false e r q ih = ih r q

word_last : (one : Kind) (own w : List ℕ) → none_of one type_words ≡ true → none_of one statement_words ≡ true → none_of one reserved_words ≡ true → same one (word_kind own w) ≡ true
    → same one (name_kind own w) ≡ true
word_last one own w a b c h =
    kind_last one reserved_words (name_kind own w) w c
    (kind_last one statement_words (kind_in reserved_words (name_kind own w) w) w b
    (kind_last one type_words (kind_in statement_words (kind_in reserved_words (name_kind own w) w) w) w a h))

sign_last : (one : Kind) (w : List ℕ) → none_of one separators ≡ true → none_of one operators ≡ true → none_of one double_operators ≡ true → same one (sign_kind w) ≡ true → same one k.Other ≡ true
sign_last one w a b c h =
    kind_last one double_operators k.Other w c
    (kind_last one operators (kind_in double_operators k.Other w) w b (kind_last one separators (kind_in operators (kind_in double_operators k.Other w) w) w a h))

-- ---- the section's own name

-- The word is the section's name, which may stand in a header.
pub record IsOwn (own w : List ℕ) : Type 0 where
  pub same_name : w ≡ own
  pub is_header : is_header_name own ≡ true
  pub is_name_of : is_name own ≡ true

number_not_own : (o : Option ℕ) → same k.Own (number_kind o) ≡ true → ⊥
number_not_own None h = cc
number_not_own (Some n) h = by_test (is_length n) h
  where
    by_test : (t : Bool) → same k.Own (if t then k.Length else k.Number) ≡ true → ⊥
    by_test true g = cc
    by_test false g = cc

word_own : (own w : List ℕ) → same k.Own (word_kind own w) ≡ true → IsOwn own w
word_own own w h = by_name (is_name w) (bytes_eq w own) refl refl (word_last k.Own own w refl refl refl h)
  where
    own_of : is_name w ≡ true → w ≡ own → IsOwn own w
    own_of n e = record {
      same_name = e;
      is_header = subst (λ z. same k.Own (word_kind own z) ≡ true) e h;
      is_name_of = subst (λ z. is_name z ≡ true) e n;
    }

    by_name : (t b : Bool) → is_name w ≡ t → bytes_eq w own ≡ b → same k.Own (if t then (if b then k.Own else k.Name) else k.Other) ≡ true → IsOwn own w
    by_name true true n e g = own_of n (same_text w own (sym e))
    by_name true false n e g = absurd (cc)
    by_name false b n e g = absurd (cc)

as_own : (own : List ℕ) (kind : TokenKind) (w : List ℕ) → same k.Own (lexeme_as own kind (record { kind = kind; place = 0; spelling = w })).kind ≡ true → IsOwn own w
as_own own shape.Word w h = word_own own w h
as_own own shape.Number w h = absurd (number_not_own (number_in w) h)
as_own own shape.Sign w h = let g = sign_last k.Own w refl refl refl h in absurd (cc)

pub own_is : (own w : List ℕ) → same k.Own (lexeme_at own w).kind ≡ true → IsOwn own w
own_is own w h = as_own own (token_shape (shape_of C w)) w h

-- ---- the line `end`

number_no_end : (o : Option ℕ) → same k.EndLine (number_kind o) ≡ false
number_no_end None = refl
number_no_end (Some n) = by_test (is_length n)
  where
    by_test : (t : Bool) → same k.EndLine (if t then k.Length else k.Number) ≡ false
    by_test true = refl
    by_test false = refl

name_no_end : (own w : List ℕ) → same k.EndLine (name_kind own w) ≡ false
name_no_end own w = by_name (is_name w) (bytes_eq w own)
  where
    by_name : (t b : Bool) → same k.EndLine (if t then (if b then k.Own else k.Name) else k.Other) ≡ false
    by_name true true = refl
    by_name true false = refl
    by_name false b = refl

not_true : (t : Bool) → (t ≡ true → ⊥) → t ≡ false
not_true true h = absurd (h refl)
not_true false h = refl

as_no_end : (own : List ℕ) (kind : TokenKind) (t : Token) → same k.EndLine (lexeme_as own kind t).kind ≡ false
as_no_end own shape.Word t =
    not_true (same k.EndLine (word_kind own t.spelling)) (λ h. let g = word_last k.EndLine own t.spelling refl refl refl h in let f = name_no_end own t.spelling in cc)
as_no_end own shape.Number t = number_no_end (number_in t.spelling)
as_no_end own shape.Sign t = not_true (same k.EndLine (sign_kind t.spelling)) (λ h. let g = sign_last k.EndLine t.spelling refl refl refl h in cc)

-- no token is the line `end`
unfoldable pub NoEnd : List Lexeme → Type 0
NoEnd [] = Unit {0}
NoEnd (t ∷ ts) = (same k.EndLine t.kind ≡ false) × NoEnd ts

pub lexemes_no_end : (own : List ℕ) (ts : List Token) → NoEnd (lexemes_in own ts)
unfolding NoEnd
lexemes_no_end own [] = tt
lexemes_no_end own (t ∷ ts) = (as_no_end own t.kind t, lexemes_no_end own ts)
