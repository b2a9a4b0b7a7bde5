-- A token of a section is spelled as its kind says.
use Rattle.std.proofs.Common.{ℕ, ◌+◌, ◌≡◌, Bool, true, false, ◌&&◌, List, [], ◌∷◌, ◌++◌, take, drop, Option, Some, None, Result, Ok, Err, IfOk, refl, sym, ◌∙◌, ap}
use Rattle.std.specs.Prelude.{if◌then◌else◌}
use Rattle.std.specs.Str.{bytes_eq}
use Rattle.std.specs.Cmp.Lexicographic.{same_text}
use Rattle.vd_base.specs.Name.{is_name}
use Rattle.vd_tokens.specs.declared.alphabet.Alphabet.{Alphabet}
use Rattle.vd_tokens.specs.declared.token.End.{End}
use Rattle.vd_tokens.specs.declared.token.End.TheVariants as last
use Rattle.vd_tokens.specs.declared.token.TokenKind.{TokenKind}
use Rattle.vd_tokens.specs.declared.token.TokenKind.TheVariants as shape
use Rattle.vd_tokens.specs.Lexeme.{Lexeme as Token}
use Rattle.vd_cgrammar.specs.declared.kind.Kind.{Kind}
use Rattle.vd_cgrammar.specs.declared.kind.Kind.TheVariants as k
use Rattle.std.specs.declared.alloc.AllocError.{AllocError}
use Rattle.vd_cparse.specs.declared.lex.Lexed.{Lexed}
use Rattle.vd_cgrammar.specs.Lexeme.{Lexeme, lexemes_of}
use Rattle.vd_cgrammar.specs.Fits.{may_be, fits, all_fit}
use Rattle.vd_cparse.specs.HeaderLine.{end_at}
use Rattle.vd_cgrammar.specs.Words.{kind_in, name_kind, type_words, statement_words, reserved_words, word_kind, separators, operators, double_operators, sign_kind, is_length, number_in, number_lexeme, lexeme_as, lexeme_in, lexemes_in}
use Rattle.vd_cparse.specs.Section.{Lexes, Continued, Continues, HasTokensBy, HasTokens, end_line}

both_true : (a b : Bool) → a ≡ true → b ≡ true → (a && b) ≡ true
both_true true b h g = g
both_true false b h g = cc

split_true : (a b : Bool) → (a && b) ≡ true → (a ≡ true) × (b ≡ true)
split_true true b h = (refl, h)
split_true false b h = cc

name_fits : (own word : List ℕ) → may_be (name_kind own word) word ≡ true
name_fits own word = by_test (is_name word) (bytes_eq word own) refl
  where
    by_test : (a b : Bool) → is_name word ≡ a → may_be (if a then (if b then k.Own else k.Name) else k.Other) word ≡ true
    by_test true true h = h
    by_test true false h = h
    by_test false b h = refl

-- the entry's word fits its kind
abbrev entry_fits : List ℕ × Kind → Bool
entry_fits entry = may_be entry.1 entry.0

abbrev table_fits : List (List ℕ × Kind) → Bool
table_fits [] = true
table_fits (entry ∷ table) = entry_fits entry && table_fits table

kind_fits : (table : List (List ℕ × Kind)) (rest_kind : Kind) (spelling : List ℕ) → table_fits table ≡ true → may_be rest_kind spelling ≡ true → may_be (kind_in table rest_kind spelling) spelling ≡ true
kind_fits [] rest_kind spelling h g = g
kind_fits (entry ∷ table) rest_kind spelling h g = by_test (kind_fits table rest_kind spelling (split_true (entry_fits entry) (table_fits table) h).1 g) (bytes_eq spelling entry.0) refl
  where
    by_test : may_be (kind_in table rest_kind spelling) spelling ≡ true → (b : Bool) → bytes_eq spelling entry.0 ≡ b → may_be (if b then entry.1 else kind_in table rest_kind spelling) spelling ≡ true
    by_test rest true e = ap (λ word. may_be entry.1 word) (same_text spelling entry.0 (sym e)) ∙ (split_true (entry_fits entry) (table_fits table) h).0
    by_test rest false e = rest

word_fits : (own word : List ℕ) → may_be (word_kind own word) word ≡ true
word_fits own word =
    kind_fits type_words (kind_in statement_words (kind_in reserved_words (name_kind own word) word) word) word refl
    (kind_fits statement_words (kind_in reserved_words (name_kind own word) word) word refl (kind_fits reserved_words (name_kind own word) word refl (name_fits own word)))

sign_fits : (sign : List ℕ) → may_be (sign_kind sign) sign ≡ true
sign_fits sign =
    kind_fits separators (kind_in operators (kind_in double_operators k.Other sign) sign) sign refl
    (kind_fits operators (kind_in double_operators k.Other sign) sign refl (kind_fits double_operators k.Other sign refl refl))

number_fits : (n : Option ℕ) (t : Token) → fits (number_lexeme n t) ≡ true
number_fits None t = refl
number_fits (Some n) t = by_test (is_length n)
  where
    by_test : (b : Bool) → may_be (if b then k.Length else k.Number) t.spelling ≡ true
    by_test true = refl
    by_test false = refl

lexeme_fits : (own : List ℕ) (s : TokenKind) (t : Token) → fits (lexeme_as own s t) ≡ true
lexeme_fits own shape.Word t = word_fits own t.spelling
lexeme_fits own shape.Number t = number_fits (number_in t.spelling) t
lexeme_fits own shape.Sign t = sign_fits t.spelling

lexemes_fit : (own : List ℕ) (ts : List Token) → all_fit (lexemes_in own ts) ≡ true
lexemes_fit own [] = refl
lexemes_fit own (t ∷ ts) = both_true (fits (lexeme_in own t)) (all_fit (lexemes_in own ts)) (lexeme_fits own t.kind t) (lexemes_fit own ts)

pub fit_append : (xs ys : List Lexeme) → all_fit xs ≡ true → all_fit ys ≡ true → all_fit (xs ++ ys) ≡ true
fit_append [] ys h g = g
fit_append (x ∷ xs) ys h g = let s = split_true (fits x) (all_fit xs) h in both_true (fits x) (all_fit (xs ++ ys)) s.0 (fit_append xs ys s.1 g)

pub fit_front : (xs ys : List Lexeme) → all_fit (xs ++ ys) ≡ true → all_fit xs ≡ true
fit_front [] ys h = refl
fit_front (x ∷ xs) ys h = let s = split_true (fits x) (all_fit (xs ++ ys)) h in both_true (fits x) (all_fit xs) s.0 (fit_front xs ys s.1)

pub lexed_fit : (alphabet : Alphabet) (own : List ℕ) (place : ℕ) (bytes : List ℕ) (ts : List Lexeme) (end : End) → Lexes alphabet own place bytes ts end → all_fit ts ≡ true
lexed_fit alphabet own place bytes ts end x = ap all_fit x.lexemes ∙ lexemes_fit own x.tokens

continued_fit : (alphabet : Alphabet) (own : List ℕ) (place : ℕ) (behind : List ℕ) (middle : End) (front ts : List Lexeme) (end : End) → all_fit front ≡ true → Continues alphabet own place behind middle front ts end → all_fit ts ≡ true
continued_fit alphabet own place behind (last.Unknown at) front ts end h x = ap all_fit x.0 ∙ h
continued_fit alphabet own place behind (last.Text at) front ts end h x =
    ap all_fit x.joined ∙ fit_append front (end_line place ∷ x.back) h (lexed_fit alphabet own (place + 4) behind x.back end x.follows)

by_end : (o : Option ℕ) (alphabet : Alphabet) (own : List ℕ) (place : ℕ) (body : List ℕ) (ts : List Lexeme) (end : End) → HasTokensBy o alphabet own place body ts end → all_fit ts ≡ true
by_end None alphabet own place body ts end x = lexed_fit alphabet own place body ts end x
by_end (Some n) alphabet own place body ts end x = continued_fit alphabet own (place + n) (drop (n + 4) body) x.middle x.front ts end (lexed_fit alphabet own place (take n body) x.front x.middle x.content) x.behind

pub tokens_fit : (alphabet : Alphabet) (own : List ℕ) (place : ℕ) (body : List ℕ) (ts : List Lexeme) (end : End) → HasTokens alphabet own place body ts end → all_fit ts ≡ true
tokens_fit alphabet own place body ts end x = by_end (end_at true body) alphabet own place body ts end x

pub lexed_fits : (alphabet : Alphabet) (own : List ℕ) (place : ℕ) (bytes : List ℕ) (r : Result Lexed AllocError) → IfOk r (λ it. Lexes alphabet own place bytes (lexemes_of it.tokens.items) it.end)
    → IfOk r (λ it. all_fit (lexemes_of it.tokens.items) ≡ true)
lexed_fits alphabet own place bytes (Ok it) x = lexed_fit alphabet own place bytes (lexemes_of it.tokens.items) it.end x
lexed_fits alphabet own place bytes (Err e) x = tt

pub continued_fits : (alphabet : Alphabet) (own : List ℕ) (place : ℕ) (behind : List ℕ) (front : List Lexeme) → all_fit front ≡ true → (r : Result Lexed AllocError)
    → IfOk r (λ it. Continued alphabet own place behind front (lexemes_of it.tokens.items) it.end) → IfOk r (λ it. all_fit (lexemes_of it.tokens.items) ≡ true)
continued_fits alphabet own place behind front h (Ok it) x =
    ap all_fit x.joined ∙ fit_append front (end_line place ∷ x.back) h (lexed_fit alphabet own (place + 4) behind x.back it.end x.follows)
continued_fits alphabet own place behind front h (Err e) x = tt
