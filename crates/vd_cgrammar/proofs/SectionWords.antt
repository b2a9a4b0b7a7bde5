-- The words of a section are a vocabulary.
use Rattle.std.proofs.Common.{ℕ, ◌+◌, ◌^◌, ◌<◌, ◌≤◌, ◌≡◌, Bool, true, false, List, [], ◌∷◌, length, map, Option, None, Some, refl, sym, ◌∙◌, ap, subst, arith}
use Rattle.std.specs.Prelude.{nat_le, if◌then◌else◌}
use Rattle.std.specs.Str.{bytes_eq}
use Rattle.std.proofs.lemmas.Bool.{leb-true}
use Rattle.vd_base.specs.Name.{is_name}
use Rattle.vd_tokens.specs.declared.alphabet.Alphabet.TheVariants.{C}
use Rattle.vd_tokens.specs.declared.token.TokenKind.{TokenKind}
use Rattle.vd_tokens.specs.declared.token.TokenKind.TheVariants as shape
use Rattle.vd_tokens.specs.declared.token.End.{End}
use Rattle.vd_tokens.specs.Lexeme.{Lexeme as Token}
use Rattle.vd_tokens.specs.Number.{number_of, has_suffix, at_most}
use Rattle.vd_tokens.specs.Shapes.{shape_of, shape_is}
use Rattle.vd_tokens.specs.Text.{Shape, Token as TokenShape, Gap, Unclosed, IsElement, Tokenizes, ends, nothing_begins, nothing_closes, behind_gap, token}
use Rattle.vd_clight.specs.Printed.{number_text}
use Rattle.vd_cgrammar.specs.declared.kind.Kind.{Kind}
use Rattle.vd_cgrammar.specs.declared.kind.Kind.TheVariants as k
use Rattle.vd_cgrammar.specs.declared.kind.Class.TheVariants as c
use Rattle.vd_cgrammar.specs.Kinds.{has}
use Rattle.vd_cgrammar.specs.Lexeme.{Lexeme}
use Rattle.vd_cgrammar.specs.Words.{kind_in, type_words, statement_words, reserved_words, name_kind, word_kind, separators, operators, double_operators, sign_kind, number_in, number_kind, value_or_zero, lexeme_as, lexeme_in, lexemes_in}
use Rattle.vd_cgrammar.specs.PrintLaw.{SpacedWord, spaced_tokens}
use Rattle.vd_cgrammar.specs.Precedence.{Vocabulary, text_of, has_text}
use Rattle.vd_cgrammar.specs.Standing.{IsToken, AreTokens, none, next, AreRead}
use Rattle.vd_cgrammar.specs.Vocabularies.{token_shape, lexeme_at, SectionsHaveVocabularies}
use Rattle.vd_cgrammar.proofs.Decimals.{number_is}

-- no entry of the table is a number
abbrev no_numbers : List (List ℕ × Kind) → Bool
no_numbers [] = true
no_numbers (entry ∷ table) = if has c.AnyNumber entry.1 then false else no_numbers table

kind_no_number : (table : List (List ℕ × Kind)) (last : Kind) (w : List ℕ) → no_numbers table ≡ true → has c.AnyNumber last ≡ false → has c.AnyNumber (kind_in table last w) ≡ false
kind_no_number [] last w h g = g
kind_no_number (entry ∷ table) last w h g = by_entry (bytes_eq w entry.0) (has c.AnyNumber entry.1) refl h (λ r. kind_no_number table last w r g)
  where
    by_entry : (t b : Bool) → has c.AnyNumber entry.1 ≡ b → (if b then false else no_numbers table) ≡ true
        → (no_numbers table ≡ true → has c.AnyNumber (kind_in table last w) ≡ false) → has c.AnyNumber (if t then entry.1 else kind_in table last w) ≡ false
    by_entry t true e r ih = absurd (cc)
    by_entry true false e r ih = e
    by_entry false false e r ih = ih r

name_no_number : (own w : List ℕ) → has c.AnyNumber (name_kind own w) ≡ false
name_no_number own w = by_name (is_name w) (bytes_eq w own)
  where
    by_name : (t b : Bool) → has c.AnyNumber (if t then (if b then k.Own else k.Name) else k.Other) ≡ false
    by_name true true = refl
    by_name true false = refl
    by_name false b = refl

word_no_number : (own w : List ℕ) → has c.AnyNumber (word_kind own w) ≡ false
word_no_number own w =
    kind_no_number type_words (kind_in statement_words (kind_in reserved_words (name_kind own w) w) w) w refl
    (kind_no_number statement_words (kind_in reserved_words (name_kind own w) w) w refl (kind_no_number reserved_words (name_kind own w) w refl (name_no_number own w)))

sign_no_number : (w : List ℕ) → has c.AnyNumber (sign_kind w) ≡ false
sign_no_number w =
    kind_no_number separators (kind_in operators (kind_in double_operators k.Other w) w) w refl
    (kind_no_number operators (kind_in double_operators k.Other w) w refl (kind_no_number double_operators k.Other w refl refl))

-- ---- a number's text is taken for the number

most_is : (most n m : ℕ) → at_most most n ≡ Some m → (n ≡ m) × (n ≤ most)
most_is most n m h = by_test (nat_le n most) refl
  where
    by_test : (t : Bool) → nat_le n most ≡ t → (n ≡ m) × (n ≤ most)
    by_test true e = let f : Some n ≡ Some m = sym (rw e refl) ∙ h in (cc, leb-true n most e)
    by_test false e = let f : None ≡ Some m = sym (rw e refl) ∙ h in absurd (cc)

number_is_of : (w : List ℕ) (n : ℕ) → number_in w ≡ Some n → (number_of w ≡ n) × (n < 2 ^ 64)
number_is_of w n h = by_suffix (has_suffix w) h
  where
    by_suffix : (t : Bool) → (if t then at_most 4294967295 (number_of w) else at_most 2147483647 (number_of w)) ≡ Some n → (number_of w ≡ n) × (n < 2 ^ 64)
    by_suffix true g = let p = most_is 4294967295 (number_of w) n g in (p.0, omega (arith, p.0, p.1))
    by_suffix false g = let p = most_is 2147483647 (number_of w) n g in (p.0, omega (arith, p.0, p.1))

-- the text of a number is the same number
text_number : (w : List ℕ) (n : ℕ) → number_in w ≡ Some n → number_in (number_text n (has_suffix w)) ≡ number_in w
text_number w n h =
    let p = number_is_of w n h in
    let t = number_is n (has_suffix w) p.1 in
    ap (λ u. if u then at_most 4294967295 (number_of (number_text n (has_suffix w))) else at_most 2147483647 (number_of (number_text n (has_suffix w)))) t.suffix
    ∙ ap (λ m. if has_suffix w then at_most 4294967295 m else at_most 2147483647 m) (t.value ∙ sym p.0)

-- what is taken for a number's text
record SameNumber (own w : List ℕ) : Type 0 where
  kind : (lexeme_at own (number_text (lexeme_at own w).value (lexeme_at own w).is_unsigned)).kind ≡ (lexeme_at own w).kind
  value : (lexeme_at own (number_text (lexeme_at own w).value (lexeme_at own w).is_unsigned)).value ≡ (lexeme_at own w).value
  suffix : (lexeme_at own (number_text (lexeme_at own w).value (lexeme_at own w).is_unsigned)).is_unsigned ≡ (lexeme_at own w).is_unsigned

-- what a number's token is
record Numbered (own w : List ℕ) : Type 0 where
  kind_is : (lexeme_at own w).kind ≡ number_kind (number_in w)
  value_is : (lexeme_at own w).value ≡ value_or_zero (number_in w)
  suffix_is : (lexeme_at own w).is_unsigned ≡ has_suffix w

-- the token of bytes that have a shape
abbrev shaped : List ℕ → List ℕ → Option Shape → Lexeme
shaped own w s = lexeme_as own (token_shape s) (record { kind = token_shape s; place = 0; spelling = w })

numbered : (own w : List ℕ) → shape_of C w ≡ Some (TokenShape shape.Number) → Numbered own w
numbered own w e = record {
  kind_is = ap (λ s. (shaped own w s).kind) e;
  value_is = ap (λ s. (shaped own w s).value) e;
  suffix_is = ap (λ s. (shaped own w s).is_unsigned) e;
}

same_number : (own w : List ℕ) (n : ℕ) → number_in w ≡ Some n → Numbered own w → SameNumber own w
same_number own w n h d =
    let p = number_is_of w n h in
    let t = number_is n (has_suffix w) p.1 in
    let text = number_text n (has_suffix w) in
    let again = numbered own text (shape_is t.is_token) in
    let value : (lexeme_at own w).value ≡ n = d.value_is ∙ ap value_or_zero h in
    let same_text : number_text (lexeme_at own w).value (lexeme_at own w).is_unsigned ≡ text = ap (λ m. number_text m (lexeme_at own w).is_unsigned) value ∙ ap (number_text n) d.suffix_is in
    record {
      kind = ap (λ q. (lexeme_at own q).kind) same_text ∙ (again.kind_is ∙ (ap number_kind (text_number w n h) ∙ sym d.kind_is));
      value = ap (λ q. (lexeme_at own q).value) same_text ∙ (again.value_is ∙ (ap value_or_zero (text_number w n h) ∙ sym d.value_is));
      suffix = ap (λ q. (lexeme_at own q).is_unsigned) same_text ∙ (again.suffix_is ∙ (t.suffix ∙ sym d.suffix_is));
    }

number_again : (own w : List ℕ) → has c.AnyNumber (lexeme_at own w).kind ≡ true → SameNumber own w
number_again own w h = by_shape (shape_of C w) refl
  where
    no_sign : (lexeme_at own w).kind ≡ sign_kind w → SameNumber own w
    no_sign e = let f : has c.AnyNumber (sign_kind w) ≡ true = ap (has c.AnyNumber) (sym e) ∙ h in let g = sign_no_number w in absurd (cc)

    no_word : (lexeme_at own w).kind ≡ word_kind own w → SameNumber own w
    no_word e = let f : has c.AnyNumber (word_kind own w) ≡ true = ap (has c.AnyNumber) (sym e) ∙ h in let g = word_no_number own w in absurd (cc)

    by_number : (o : Option ℕ) → number_in w ≡ o → Numbered own w → SameNumber own w
    by_number (Some n) e d = same_number own w n e d
    by_number None e d =
        let f : has c.AnyNumber k.Other ≡ true = ap (has c.AnyNumber) (ap number_kind (sym e) ∙ sym d.kind_is) ∙ h in
        absurd (cc)

    by_shape : (o : Option Shape) → shape_of C w ≡ o → SameNumber own w
    by_shape (Some (TokenShape shape.Number)) e = by_number (number_in w) refl (numbered own w e)
    by_shape (Some (TokenShape shape.Word)) e = no_word (ap (λ s. (shaped own w s).kind) e)
    by_shape (Some (TokenShape shape.Sign)) e = no_sign (ap (λ s. (shaped own w s).kind) e)
    by_shape (Some Gap) e = no_sign (ap (λ s. (shaped own w s).kind) e)
    by_shape (Some Unclosed) e = no_sign (ap (λ s. (shaped own w s).kind) e)
    by_shape None e = no_sign (ap (λ s. (shaped own w s).kind) e)

text_kind : (own : List ℕ) (kind : Kind) → has_text (text_of kind) ≡ true → (lexeme_at own (text_of kind)).kind ≡ kind
text_kind own k.Int h = refl
text_kind own k.Unsigned h = refl
text_kind own k.Lock h = refl
text_kind own k.Void h = refl
text_kind own k.Struct h = refl
text_kind own k.SizeOf h = refl
text_kind own k.AlignOf h = refl
text_kind own k.LeftParen h = refl
text_kind own k.RightParen h = refl
text_kind own k.LeftBracket h = refl
text_kind own k.RightBracket h = refl
text_kind own k.Or h = refl
text_kind own k.Xor h = refl
text_kind own k.And h = refl
text_kind own k.Equal h = refl
text_kind own k.NotEqual h = refl
text_kind own k.Less h = refl
text_kind own k.LessEqual h = refl
text_kind own k.Greater h = refl
text_kind own k.GreaterEqual h = refl
text_kind own k.ShiftLeft h = refl
text_kind own k.ShiftRight h = refl
text_kind own k.Plus h = refl
text_kind own k.Minus h = refl
text_kind own k.Star h = refl
text_kind own k.Slash h = refl
text_kind own k.Percent h = refl
text_kind own k.Not h = refl
text_kind own k.Tilde h = refl
text_kind own k.Dot h = refl
text_kind own k.Arrow h = refl
text_kind own k.LeftBrace h = refl
text_kind own k.RightBrace h = refl
text_kind own k.Semicolon h = refl
text_kind own k.Comma h = refl
text_kind own k.Assign h = refl
text_kind own k.If h = refl
text_kind own k.Else h = refl
text_kind own k.While h = refl
text_kind own k.Return h = refl
text_kind own k.Break h = refl
text_kind own k.Continue h = refl
text_kind own _ h = cc

module _ (own : List ℕ) where
  abbrev words : Vocabulary
  words = record {
    kind_at = λ w. (lexeme_at own w).kind;
    value_at = λ w. (lexeme_at own w).value;
    unsigned_at = λ w. (lexeme_at own w).is_unsigned;
    text_is = text_kind own;
    number_is = λ w h. ap (has c.AnyNumber) (number_again own w h).kind ∙ h;
    value_is = λ w h. (number_again own w h).value;
    unsigned_is = λ w h. (number_again own w h).suffix;
  }

  as_kind : (kind j : TokenKind) (t : Token) → (lexeme_as own kind t).kind ≡ (lexeme_as own kind (record { kind = j; place = 0; spelling = t.spelling })).kind
  as_kind shape.Word j t = refl
  as_kind shape.Number j t = refl
  as_kind shape.Sign j t = refl

  as_spelling : (kind : TokenKind) (t : Token) → (lexeme_as own kind t).spelling ≡ t.spelling
  as_spelling shape.Word t = refl
  as_spelling shape.Number t = refl
  as_spelling shape.Sign t = refl

  as_value : (kind j : TokenKind) (t : Token) → (lexeme_as own kind t).value ≡ (lexeme_as own kind (record { kind = j; place = 0; spelling = t.spelling })).value
  as_value shape.Word j t = refl
  as_value shape.Number j t = refl
  as_value shape.Sign j t = refl

  as_unsigned : (kind j : TokenKind) (t : Token) → (lexeme_as own kind t).is_unsigned ≡ (lexeme_as own kind (record { kind = j; place = 0; spelling = t.spelling })).is_unsigned
  as_unsigned shape.Word j t = refl
  as_unsigned shape.Number j t = refl
  as_unsigned shape.Sign j t = refl

  -- a token of a text is taken for what its bytes are
  token_read : (t : Token) → IsElement C (TokenShape t.kind) t.spelling → IsToken words (lexeme_in own t) t.spelling
  token_read t h =
      let s = shape_of C t.spelling in
      let e : t.kind ≡ token_shape s = sym (ap token_shape (shape_is h)) in
      record {
        kind_is = as_kind t.kind (token_shape s) t ∙ ap (λ q. (lexeme_as own q (record { kind = token_shape s; place = 0; spelling = t.spelling })).kind) e;
        spelling_is = as_spelling t.kind t;
        value_is = as_value t.kind (token_shape s) t ∙ ap (λ q. (lexeme_as own q (record { kind = token_shape s; place = 0; spelling = t.spelling })).value) e;
        unsigned_is = as_unsigned t.kind (token_shape s) t ∙ ap (λ q. (lexeme_as own q (record { kind = token_shape s; place = 0; spelling = t.spelling })).is_unsigned) e;
      }

  of_itself : (t : Lexeme) (w : List ℕ) → IsToken words t w → IsToken words t t.spelling
  of_itself t w i = subst (IsToken words t) (sym i.spelling_is) i

  tokens_read : {place : ℕ} {text : List ℕ} {ts : List Token} {end : End} → Tokenizes C place text ts end → AreRead words (lexemes_in own ts)
  tokens_read ends = none
  tokens_read (nothing_begins h) = none
  tokens_read (nothing_closes h) = none
  tokens_read (behind_gap h d) = tokens_read d
  tokens_read (token {place = place} {front = front} {kind = kind} h d) =
      let t : Token = record { kind = kind; place = place; spelling = front } in
      next (of_itself (lexeme_in own t) front (token_read t h.is)) (tokens_read d)

  spaced_read : (place : ℕ) (xs : List SpacedWord) → AreTokens words (lexemes_in own (spaced_tokens place xs)) (map (λ x. x.word) xs)
  spaced_read place [] = none
  spaced_read place (x ∷ xs) = next (token_read (record { kind = x.kind; place = place; spelling = x.word }) x.is_token) (spaced_read (place + length x.word + 1) xs)

pub have_vocabularies : SectionsHaveVocabularies
have_vocabularies own = record {
  vocabulary = words own;
  is = record { kinds = λ w. refl; values = λ w. refl; suffixes = λ w. refl };
  read = λ place text ts end d. tokens_read own d;
  spaced = spaced_read own;
}
