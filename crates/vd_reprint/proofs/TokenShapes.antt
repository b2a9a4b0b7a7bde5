-- Words that a section takes for anything are tokens, and no token has a line feed.
use Rattle.std.proofs.Common.{ℕ, ◌≡◌, ◌≢◌, ◌⊎◌, inl, inr, Bool, true, false, ◌&&◌, List, [], ◌∷◌, ◌++◌, Option, Some, None, refl, sym, ◌∙◌, ap, subst}
use Rattle.std.specs.Prelude.{◌==◌, if◌then◌else◌}
use Rattle.std.specs.Str.{bytes_eq}
use Rattle.std.specs.Cmp.Lexicographic.{same_text}
use Rattle.std.proofs.lemmas.Bool.{eqb-true, eqb-false}
use Rattle.vd_tokens.specs.declared.alphabet.Alphabet.TheVariants.{C}
use Rattle.vd_tokens.specs.declared.token.TokenKind.{TokenKind}
use Rattle.vd_tokens.specs.declared.token.TokenKind.TheVariants as shape
use Rattle.vd_tokens.specs.Bytes.{is_digit, is_letter, is_word_byte, is_blank, is_no_line_feed, AllBytes}
use Rattle.vd_tokens.specs.Shapes.{all_bytes, is_nothing, when, suffix_on, digits_on, number_on, slash_shape, stars_shape, closes_at_end, sign_on, shape_of, is_sign, and_parts}
use Rattle.vd_tokens.specs.Signs.{is_single, is_pair}
use Rattle.vd_tokens.specs.Text.{IsDecimal, has_close, Shape, Token, Gap, Unclosed, IsElement, word, number, suffixed, single, pair}
use Rattle.vd_cgrammar.specs.declared.kind.Kind.{Kind}
use Rattle.vd_cgrammar.specs.declared.kind.Kind.TheVariants as k
use Rattle.vd_cgrammar.specs.Words.{kind_in, separators, operators, double_operators, sign_kind, lexeme_as}
use Rattle.vd_cgrammar.specs.Vocabularies.{token_shape, lexeme_at}

-- ---- bytes of a shape are a token

all_bytes_back : (p : ℕ → Bool) (bs : List ℕ) → all_bytes p bs ≡ true → AllBytes p bs
all_bytes_back p [] h = tt
all_bytes_back p (b ∷ bs) h = let s = and_parts (p b) (all_bytes p bs) h in (s.0, all_bytes_back p bs s.1)

-- the test passes, and the shape is this one
when_is : (t : Bool) (s r : Shape) → when t s ≡ Some r → (t ≡ true) × (s ≡ r)
when_is true s r h = (refl, cc)
when_is false s r h = cc

-- digits, or digits and `u`
data DigitsOn (bs : List ℕ) : Type 0 where
  digits : AllBytes is_digit bs → DigitsOn bs
  digits_then_suffix : (ds : List ℕ) → bs ≡ ds ++ 117 ∷ [] → AllBytes is_digit ds → DigitsOn bs

one_suffix : (bs : List ℕ) → suffix_on C bs ≡ true → (bs ≡ []) ⊎ (bs ≡ 117 ∷ [])
one_suffix [] h = inl refl
one_suffix (b ∷ []) h = let s = and_parts (b == 117) true h in inr (ap (λ x. x ∷ []) (eqb-true b 117 s.0))
one_suffix (b ∷ c ∷ bs) h = let s = and_parts (b == 117) false h in let e : false ≡ true = s.1 in cc

digits_are : (bs : List ℕ) → digits_on C bs ≡ true → DigitsOn bs
digits_are [] h = digits tt
digits_are (b ∷ bs) h = by_digit (is_digit b) refl h (λ g. digits_are bs g)
  where
    more : is_digit b ≡ true → DigitsOn bs → DigitsOn (b ∷ bs)
    more e (digits a) = digits (e, a)
    more e (digits_then_suffix ds cut a) = digits_then_suffix (b ∷ ds) (ap (λ x. b ∷ x) cut) (e, a)

    last : (b ∷ bs ≡ []) ⊎ (b ∷ bs ≡ 117 ∷ []) → DigitsOn (b ∷ bs)
    last (inl e) = cc
    last (inr e) = digits_then_suffix [] e tt

    by_digit : (t : Bool) → is_digit b ≡ t → (if t then digits_on C bs else suffix_on C (b ∷ bs)) ≡ true → (digits_on C bs ≡ true → DigitsOn bs) → DigitsOn (b ∷ bs)
    by_digit true e g ih = more e (ih g)
    by_digit false e g ih = last (one_suffix (b ∷ bs) g)

decimal_is : (b : ℕ) (bs : List ℕ) → is_digit b ≡ true → b ≢ 48 → AllBytes is_digit bs → IsDecimal (b ∷ bs)
decimal_is b [] h n a = h
decimal_is b (c ∷ bs) h n a = (h, n, a)

number_is_token : (b : ℕ) (bs : List ℕ) → is_digit b ≡ true → number_on C b bs ≡ true → IsElement C (Token shape.Number) (b ∷ bs)
number_is_token b bs h g = by_zero (b == 48) refl g
  where
    zero : (bs ≡ []) ⊎ (bs ≡ 117 ∷ []) → IsElement C (Token shape.Number) (b ∷ bs)
    zero (inl e) = subst (λ x. IsElement C (Token shape.Number) (b ∷ x)) (sym e) (number h)
    zero (inr e) = suffixed (b ∷ []) refl (ap (λ x. b ∷ x) e) h

    more : b ≢ 48 → DigitsOn bs → IsElement C (Token shape.Number) (b ∷ bs)
    more n (digits a) = number (decimal_is b bs h n a)
    more n (digits_then_suffix ds cut a) = suffixed (b ∷ ds) refl (ap (λ x. b ∷ x) cut) (decimal_is b ds h n a)

    by_zero : (t : Bool) → (b == 48) ≡ t → (if t then suffix_on C bs else digits_on C bs) ≡ true → IsElement C (Token shape.Number) (b ∷ bs)
    by_zero true e q = zero (one_suffix bs q)
    by_zero false e q = more (eqb-false b 48 e) (digits_are bs q)

sign_is_token : (b : ℕ) (bs : List ℕ) → sign_on C b bs ≡ true → IsElement C (Token shape.Sign) (b ∷ bs)
sign_is_token b [] h = single h
sign_is_token b (c ∷ []) h = pair h
sign_is_token b (c ∷ d ∷ bs) h = cc

slash_is_token : (bs : List ℕ) (kind : TokenKind) → slash_shape C bs ≡ Some (Token kind) → IsElement C (Token kind) (47 ∷ bs)
slash_is_token [] kind h = let e : Token shape.Sign ≡ Token kind = cc in subst (λ s. IsElement C s (47 ∷ [])) e (single refl)
slash_is_token (b ∷ bs) kind h = by_line (b == 47) (b == 42) h
  where
    gap : (t : Bool) → when t Gap ≡ Some (Token kind) → IsElement C (Token kind) (47 ∷ b ∷ bs)
    gap t g = let s = when_is t Gap (Token kind) g in let e = s.1 in cc

    by_close : (t : Bool) → (if t then when (closes_at_end bs) Gap else Some Unclosed) ≡ Some (Token kind) → IsElement C (Token kind) (47 ∷ b ∷ bs)
    by_close true g = gap (closes_at_end bs) g
    by_close false g = cc

    by_line : (t u : Bool) → (if t then when (all_bytes is_no_line_feed bs) Gap else (if u then stars_shape bs else None)) ≡ Some (Token kind) → IsElement C (Token kind) (47 ∷ b ∷ bs)
    by_line true u g = gap (all_bytes is_no_line_feed bs) g
    by_line false true g = by_close (has_close bs) g
    by_line false false g = cc

pub token_of_shape : (bs : List ℕ) (kind : TokenKind) → shape_of C bs ≡ Some (Token kind) → IsElement C (Token kind) bs
token_of_shape [] kind h = cc
token_of_shape (b ∷ bs) kind h = by_tests (is_letter b) (is_digit b) (is_blank b) (b == 47) refl refl refl h
  where
    moved : {s r : Shape} → s ≡ r → IsElement C s (b ∷ bs) → IsElement C r (b ∷ bs)
    moved e x = subst (λ s. IsElement C s (b ∷ bs)) e x

    by_tests : (l d g s : Bool) → is_letter b ≡ l → is_digit b ≡ d → (b == 47) ≡ s
        → (if l then when (all_bytes is_word_byte bs) (Token shape.Word) else (if d then when (number_on C b bs) (Token shape.Number) else (if g then when (is_nothing bs) Gap else (
        if s then slash_shape C bs else when (sign_on C b bs) (Token shape.Sign))))) ≡ Some (Token kind) → IsElement C (Token kind) (b ∷ bs)
    by_tests true d g s hl hd hs e = let p = when_is (all_bytes is_word_byte bs) (Token shape.Word) (Token kind) e in moved p.1 (word hl (all_bytes_back is_word_byte bs p.0))
    by_tests false true g s hl hd hs e = let p = when_is (number_on C b bs) (Token shape.Number) (Token kind) e in moved p.1 (number_is_token b bs hd p.0)
    by_tests false false true s hl hd hs e = let p = when_is (is_nothing bs) Gap (Token kind) e in let q = p.1 in cc
    by_tests false false false true hl hd hs e = subst (λ x. IsElement C (Token kind) (x ∷ bs)) (sym (eqb-true b 47 hs)) (slash_is_token bs kind e)
    by_tests false false false false hl hd hs e = let p = when_is (sign_on C b bs) (Token shape.Sign) (Token kind) e in moved p.1 (sign_is_token b bs p.0)

-- ---- words that are taken for something

-- every entry is a sign
abbrev all_signs : List (List ℕ × Kind) → Bool
all_signs [] = true
all_signs (entry ∷ table) = is_sign (shape_of C entry.0) && all_signs table

no_entry : (table : List (List ℕ × Kind)) (last : Kind) (w : List ℕ) → all_signs table ≡ true → is_sign (shape_of C w) ≡ false → kind_in table last w ≡ last
no_entry [] last w h g = refl
no_entry (entry ∷ table) last w h g =
    let s = and_parts (is_sign (shape_of C entry.0)) (all_signs table) h in
    by_entry (bytes_eq w entry.0) refl s.0 (no_entry table last w s.1 g)
  where
    by_entry : (t : Bool) → bytes_eq w entry.0 ≡ t → is_sign (shape_of C entry.0) ≡ true → kind_in table last w ≡ last → (if t then entry.1 else kind_in table last w) ≡ last
    by_entry true e s ih =
        let same : w ≡ entry.0 = same_text w entry.0 (sym e) in
        let f : is_sign (shape_of C w) ≡ true = ap (λ x. is_sign (shape_of C x)) same ∙ s in
        absurd (cc)
    by_entry false e s ih = ih

no_sign : (w : List ℕ) → is_sign (shape_of C w) ≡ false → sign_kind w ≡ k.Other
no_sign w h =
    no_entry separators (kind_in operators (kind_in double_operators k.Other w) w) w refl h
    ∙ (no_entry operators (kind_in double_operators k.Other w) w refl h ∙ no_entry double_operators k.Other w refl h)

-- The bytes are a token.
pub record IsWord (w : List ℕ) : Type 0 where
  pub kind : TokenKind
  pub is_token : IsElement C (Token kind) w

pub known_is_word : (own w : List ℕ) → (lexeme_at own w).kind ≢ k.Other → IsWord w
known_is_word own w h = by_shape (shape_of C w) refl
  where
    unknown : (o : Option Shape) → shape_of C w ≡ o → is_sign o ≡ false → token_shape o ≡ shape.Sign → IsWord w
    unknown o e g t =
        let sign : (lexeme_at own w).kind ≡ sign_kind w = ap (λ s. (lexeme_as own (token_shape s) (record { kind = token_shape s; place = 0; spelling = w })).kind) e ∙ ap (λ s. (lexeme_as own s (record { kind = s; place = 0; spelling = w })).kind) t in
        absurd (h (sign ∙ no_sign w (ap is_sign e ∙ g)))

    by_shape : (o : Option Shape) → shape_of C w ≡ o → IsWord w
    by_shape (Some (Token kind)) e = record { kind = kind; is_token = token_of_shape w kind e }
    by_shape (Some Gap) e = unknown (Some Gap) e refl refl
    by_shape (Some Unclosed) e = unknown (Some Unclosed) e refl refl
    by_shape None e = unknown None e refl refl

-- ---- no line feed

plain_byte : (p : ℕ → Bool) (b : ℕ) → p 10 ≡ false → p b ≡ true → is_no_line_feed b ≡ true
plain_byte p b h g = by_test (b == 10) refl
  where
    by_test : (t : Bool) → (b == 10) ≡ t → is_no_line_feed b ≡ true
    by_test true e = let f : p 10 ≡ true = ap p (sym (eqb-true b 10 e)) ∙ g in absurd (cc)
    by_test false e = rw e refl

plain_bytes : (p : ℕ → Bool) (bs : List ℕ) → p 10 ≡ false → AllBytes p bs → AllBytes is_no_line_feed bs
plain_bytes p [] h a = tt
plain_bytes p (b ∷ bs) h a = (plain_byte p b h a.0, plain_bytes p bs h a.1)

pub plain_append : (xs ys : List ℕ) → AllBytes is_no_line_feed xs → AllBytes is_no_line_feed ys → AllBytes is_no_line_feed (xs ++ ys)
plain_append [] ys a b = b
plain_append (x ∷ xs) ys a b = (a.0, plain_append xs ys a.1 b)

plain_digits : (ds : List ℕ) → IsDecimal ds → AllBytes is_no_line_feed ds
plain_digits [] h = absurd h
plain_digits (b ∷ []) h = (plain_byte is_digit b refl h, tt)
plain_digits (b ∷ c ∷ ds) h = (plain_byte is_digit b refl h.0, plain_bytes is_digit (c ∷ ds) refl h.2)

-- no pair ends with a line feed
second_plain : (b : ℕ) → is_pair C b 10 ≡ false
second_plain b = rw (no_end (61 == b), no_end (33 == b), no_end (60 == b), no_end (62 == b), no_end (45 == b)) refl
  where
    no_end : (t : Bool) → (t && false) ≡ false
    no_end true = refl
    no_end false = refl

pub word_is_plain : {kind : TokenKind} {w : List ℕ} → IsElement C (Token kind) w → AllBytes is_no_line_feed w
word_is_plain (word {b = b} {bs = bs} h a) = (plain_byte is_letter b refl h, plain_bytes is_word_byte bs refl a)
word_is_plain (number {ds = ds} h) = plain_digits ds h
word_is_plain (suffixed ds s cut h) = subst (AllBytes is_no_line_feed) (sym cut) (plain_append ds (117 ∷ []) (plain_digits ds h) (refl, tt))
word_is_plain (single {b = b} h) = (plain_byte (is_single C) b refl h, tt)
word_is_plain (pair {b = b} {c = c} h) = (plain_byte (λ x. is_pair C x c) b refl h, (plain_byte (λ x. is_pair C b x) c (second_plain b) h, tt))
