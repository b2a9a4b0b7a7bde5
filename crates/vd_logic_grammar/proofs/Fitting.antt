-- A token of a section is spelled as its kind says, and has a number as its kind says.
use Rattle.std.proofs.Common.{ℕ, ◌+◌, ◌^◌, ◌-◌, ◌≡◌, Bool, true, false, ◌&&◌, List, [], ◌∷◌, ◌++◌, take, drop, Option, Some, None, Result, Ok, Err, IfOk, refl, sym, ◌∙◌, ap}
use Rattle.std.specs.Prelude.{if◌then◌else◌, nat_le}
use Rattle.std.specs.Str.{bytes_eq}
use Rattle.std.specs.Cmp.Lexicographic.{same_text}
use Rattle.std.specs.declared.alloc.AllocError.{AllocError}
use Rattle.vd_base.specs.Name.{is_name}
use Rattle.vd_grammar.specs.declared.fault.Cause.{Cause}
use Rattle.vd_grammar.specs.Section.{whole_text, at_unknown, at_deep}
use Rattle.vd_logic.specs.declared.term.Op.{Op}
use Rattle.vd_logic.specs.declared.term.Op.TheVariants as op
use Rattle.vd_section.specs.EndLine.{end_at}
use Rattle.vd_section.specs.Content.{Continues, HasTokensBy}
use Rattle.vd_tokens.specs.declared.alphabet.Alphabet.TheVariants.{Logic}
use Rattle.vd_tokens.specs.declared.token.End.{End}
use Rattle.vd_tokens.specs.declared.token.End.TheVariants as last
use Rattle.vd_tokens.specs.declared.token.TokenKind.{TokenKind}
use Rattle.vd_tokens.specs.declared.token.TokenKind.TheVariants as shape
use Rattle.vd_tokens.specs.Lexeme.{Lexeme as Token}
use Rattle.vd_tokens.specs.Number.{number_of, at_most}
use Rattle.vd_logic_grammar.specs.declared.kind.Kind.{Kind}
use Rattle.vd_logic_grammar.specs.declared.kind.Kind.TheVariants as k
use Rattle.vd_logic_grammar.specs.declared.language.Language.{Language}
use Rattle.vd_logic_grammar.specs.declared.language.Language.TheVariants as language
use Rattle.vd_logic_grammar.specs.declared.lex.Lexed.{Lexed}
use Rattle.vd_logic_grammar.specs.Content.{LexesIn, ContinuedIn, HasTokensIn}
use Rattle.vd_logic_grammar.specs.Fits.{may_be, fits, all_fit}
use Rattle.vd_logic_grammar.specs.Kinds.{same}
use Rattle.vd_logic_grammar.specs.Lexeme.{Lexeme, lexemes_of}
use Rattle.vd_logic_grammar.specs.Tokens.{IsCut}
use Rattle.vd_logic_grammar.specs.Words as words
use Rattle.vd_logic_grammar.specs.Words.{entry_of, name_kind, operation_of, operation_kind, arity_of, assertion_word, step_word, word_kind, brace_kind, sign_kind, number_in, number_kind, number_lexeme, value_or_zero, lexeme_as, lexeme_in, lexemes_in, end_line}

both_true : (a b : Bool) → a ≡ true → b ≡ true → (a && b) ≡ true
both_true true b h g = g
both_true false b h g = cc

split_true : (a b : Bool) → (a && b) ≡ true → (a ≡ true) × (b ≡ true)
split_true true b h = (refl, h)
split_true false b h = cc

name_fits : (own word : List ℕ) → may_be (name_kind own word) word 0 ≡ true
name_fits own word = by_test (is_name word) (bytes_eq word own) refl
  where
    by_test : (a b : Bool) → is_name word ≡ a → may_be (if a then (if b then k.Own else k.Name) else k.Other) word 0 ≡ true
    by_test true true h = h
    by_test true false h = h
    by_test false b h = refl

-- the entry's word fits its kind
abbrev entry_fits : List ℕ × Kind → Bool
entry_fits entry = may_be entry.1 entry.0 0

abbrev table_fits : List (List ℕ × Kind) → Bool
table_fits [] = true
table_fits (entry ∷ table) = entry_fits entry && table_fits table

kind_fits : (table : List (List ℕ × Kind)) (rest_kind : Kind) (spelling : List ℕ) → table_fits table ≡ true → may_be rest_kind spelling 0 ≡ true → may_be (entry_of table rest_kind spelling) spelling 0 ≡ true
kind_fits [] rest_kind spelling h g = g
kind_fits (entry ∷ table) rest_kind spelling h g = by_test (kind_fits table rest_kind spelling (split_true (entry_fits entry) (table_fits table) h).1 g) (bytes_eq spelling entry.0) refl
  where
    by_test : may_be (entry_of table rest_kind spelling) spelling 0 ≡ true → (b : Bool) → bytes_eq spelling entry.0 ≡ b → may_be (if b then entry.1 else entry_of table rest_kind spelling) spelling 0 ≡ true
    by_test rest true e = ap (λ w. may_be entry.1 w 0) (same_text spelling entry.0 (sym e)) ∙ (split_true (entry_fits entry) (table_fits table) h).0
    by_test rest false e = rest

arity_fits : (o : Op) (word : List ℕ) → may_be (arity_of o) word 0 ≡ true
arity_fits op.Add word = refl
arity_fits _ word = refl

operation_fits : (o : Option Op) (rest_kind : Kind) (word : List ℕ) → may_be rest_kind word 0 ≡ true → may_be (operation_kind o rest_kind) word 0 ≡ true
operation_fits None rest_kind word h = h
operation_fits (Some o) rest_kind word h = arity_fits o word

assertion_fits : (rest_kind : Kind) (word : List ℕ) → may_be rest_kind word 0 ≡ true → may_be (assertion_word rest_kind word) word 0 ≡ true
assertion_fits rest_kind word h =
    kind_fits words.sort_words (entry_of words.assertion_words (operation_kind (operation_of word) rest_kind) word) word refl
    (kind_fits words.assertion_words (operation_kind (operation_of word) rest_kind) word refl (operation_fits (operation_of word) rest_kind word h))

step_fits : (rest_kind : Kind) (word : List ℕ) → may_be rest_kind word 0 ≡ true → may_be (step_word rest_kind word) word 0 ≡ true
step_fits rest_kind word h =
    kind_fits words.flow_words _ word refl (kind_fits words.leaving_words _ word refl (kind_fits words.call_words _ word refl
    (kind_fits words.fact_words _ word refl (kind_fits words.item_words _ word refl (kind_fits words.last_words _ word refl h)))))

pub word_fits : (l : Language) (own word : List ℕ) → may_be (word_kind l own word) word 0 ≡ true
word_fits language.Abstract own word = kind_fits words.sort_words (name_kind own word) word refl (name_fits own word)
word_fits language.Pred own word = assertion_fits (entry_of words.case_words (name_kind own word) word) word (kind_fits words.case_words (name_kind own word) word refl (name_fits own word))
word_fits language.Spec own word =
    assertion_fits (entry_of words.specification_words (entry_of words.reserved_words (name_kind own word) word) word) word
    (kind_fits words.specification_words (entry_of words.reserved_words (name_kind own word) word) word refl (kind_fits words.reserved_words (name_kind own word) word refl (name_fits own word)))
word_fits language.Script own word = assertion_fits (step_word (name_kind own word) word) word (step_fits (name_kind own word) word (name_fits own word))

brace_fits : (l : Language) (sign : List ℕ) → may_be (brace_kind l sign) sign 0 ≡ true
brace_fits language.Script sign = kind_fits words.braces k.Other sign refl refl
brace_fits language.Abstract sign = refl
brace_fits language.Pred sign = refl
brace_fits language.Spec sign = refl

sign_fits : (l : Language) (sign : List ℕ) → may_be (sign_kind l sign) sign 0 ≡ true
sign_fits l sign =
    kind_fits words.signs (entry_of words.operators (brace_kind l sign) sign) sign refl (kind_fits words.operators (brace_kind l sign) sign refl (brace_fits l sign))

at_most_fits : (m n : ℕ) (t : Token) → nat_le n (2 ^ 127 - 1) ≡ true → fits (number_lexeme (Some n) t) ≡ true
at_most_fits m n t h = by_test (nat_le n 4294967295) refl
  where
    by_test : (b : Bool) → nat_le n 4294967295 ≡ b → may_be (if b then k.Index else k.Number) t.spelling n ≡ true
    by_test true e = e
    by_test false e = h

small_number : (m n : ℕ) (v : ℕ) (t : Token) → (if nat_le n m then Some n else None) ≡ Some v → nat_le v m ≡ true
small_number m n v t h = by_test (nat_le n m) refl h
  where
    by_test : (b : Bool) → nat_le n m ≡ b → (if b then Some n else None) ≡ Some v → nat_le v m ≡ true
    by_test true e g = let s : n ≡ v = cc in ap (λ x. nat_le x m) (sym s) ∙ e
    by_test false e g = cc

number_fits : (o : Option ℕ) (digits : List ℕ) (t : Token) → number_in digits ≡ o → fits (number_lexeme o t) ≡ true
number_fits None digits t h = refl
number_fits (Some n) digits t h = at_most_fits 0 n t (small_number (2 ^ 127 - 1) (number_of digits) n t h)

lexeme_fits : (l : Language) (own : List ℕ) (s : TokenKind) (t : Token) → fits (lexeme_as l own s t) ≡ true
lexeme_fits l own shape.Word t = word_fits l own t.spelling
lexeme_fits l own shape.Number t = number_fits (number_in t.spelling) t.spelling t refl
lexeme_fits l own shape.Sign t = sign_fits l t.spelling

lexemes_fit : (l : Language) (own : List ℕ) (ts : List Token) → all_fit (lexemes_in l own ts) ≡ true
lexemes_fit l own [] = refl
lexemes_fit l own (t ∷ ts) = both_true (fits (lexeme_in l own t)) (all_fit (lexemes_in l own ts)) (lexeme_fits l own t.kind t) (lexemes_fit l own ts)

pub fit_append : (xs ys : List Lexeme) → all_fit xs ≡ true → all_fit ys ≡ true → all_fit (xs ++ ys) ≡ true
fit_append [] ys h g = g
fit_append (x ∷ xs) ys h g = let s = split_true (fits x) (all_fit xs) h in both_true (fits x) (all_fit (xs ++ ys)) s.0 (fit_append xs ys s.1 g)

pub fit_front : (xs ys : List Lexeme) → all_fit (xs ++ ys) ≡ true → all_fit xs ≡ true
fit_front [] ys h = refl
fit_front (x ∷ xs) ys h = let s = split_true (fits x) (all_fit (xs ++ ys)) h in both_true (fits x) (all_fit xs) s.0 (fit_front xs ys s.1)

pub lexed_fit : (l : Language) (own : List ℕ) (place : ℕ) (bytes : List ℕ) (ts : List Lexeme) (end : End) → LexesIn l own place bytes ts end → all_fit ts ≡ true
lexed_fit l own place bytes ts end x = ap all_fit x.are ∙ lexemes_fit l own x.tokens

pub lexed_fits : (l : Language) (own : List ℕ) (place : ℕ) (bytes : List ℕ) (r : Result Lexed AllocError) → IfOk r (λ it. LexesIn l own place bytes (lexemes_of it.tokens.items) it.end)
    → IfOk r (λ it. all_fit (lexemes_of it.tokens.items) ≡ true)
lexed_fits l own place bytes (Ok it) x = lexed_fit l own place bytes (lexemes_of it.tokens.items) it.end x
lexed_fits l own place bytes (Err e) x = tt

pub continued_fits : (l : Language) (own : List ℕ) (place : ℕ) (behind : List ℕ) (front : List Lexeme) → all_fit front ≡ true → (r : Result Lexed AllocError)
    → IfOk r (λ it. ContinuedIn l own place behind front (lexemes_of it.tokens.items) it.end) → IfOk r (λ it. all_fit (lexemes_of it.tokens.items) ≡ true)
continued_fits l own place behind front h (Ok it) x =
    ap all_fit x.joined ∙ fit_append front (end_line place ∷ x.back) h (lexed_fit l own (place + 4) behind x.back it.end x.follows)
continued_fits l own place behind front h (Err e) x = tt

-- the front of tokens that fit
pub cut_fit : (ts front : List Lexeme) (b : Bool) (end at : ℕ) (why : Cause) → IsCut ts b end front why at → all_fit ts ≡ true → all_fit front ≡ true
cut_fit ts front b end at why (whole_text s) h = h
cut_fit ts front b end at why (at_unknown s) h = h
cut_fit ts front b end at why (at_deep next rest c s d p) h = fit_front front (next ∷ rest) (ap all_fit (sym c) ∙ h)
