-- What a token of a text is in a C section.
use Rattle.std.specs.Prelude.{ℕ, Bool, false, ◌&&◌, nat_le, List, [], ◌∷◌, map, codes, Option, None, Some, if◌then◌else◌}
use Rattle.std.specs.Str.{bytes_eq}
use Rattle.vd_base.specs.Name.{is_name}
use Rattle.vd_tokens.specs.declared.token.TokenKind.{TokenKind}
use Rattle.vd_tokens.specs.declared.token.TokenKind.TheVariants as shape
use Rattle.vd_tokens.specs.Lexeme.{Lexeme as Token}
use Rattle.vd_tokens.specs.Number.{number_of, has_suffix, at_most}
use Rattle.vd_cgrammar.specs.declared.kind.Kind.{Kind}
use Rattle.vd_cgrammar.specs.declared.kind.Kind.TheVariants as k
use Rattle.vd_cgrammar.specs.Kinds.{same}
use Rattle.vd_cgrammar.specs.Lexeme.{Lexeme}

-- the kind that stands beside the spelling, else another
abbrev pub kind_in : List (List ℕ × Kind) → Kind → List ℕ → Kind
kind_in [] other spelling = other
kind_in (entry ∷ table) other spelling = if bytes_eq spelling entry.0 then entry.1 else kind_in table other spelling

-- ---- words

-- the words of types
abbrev pub type_words : List (List ℕ × Kind)
type_words = (codes "int", k.Int) ∷ (codes "unsigned", k.Unsigned) ∷ (codes "lock", k.Lock) ∷ (codes "void", k.Void) ∷ (codes "struct", k.Struct) ∷ []

-- the words of statements and expressions
abbrev pub statement_words : List (List ℕ × Kind)
statement_words =
    (codes "if", k.If) ∷ (codes "else", k.Else) ∷ (codes "while", k.While) ∷ (codes "return", k.Return) ∷ (codes "break", k.Break) ∷ (codes "continue", k.Continue)
    ∷ (codes "sizeof", k.SizeOf) ∷ (codes "alignof", k.AlignOf) ∷ []

-- the functions whose names are reserved
abbrev pub reserved_words : List (List ℕ × Kind)
reserved_words =
    (codes "malloc", k.Malloc) ∷ (codes "free", k.Library) ∷ (codes "makelock", k.Library) ∷ (codes "freelock", k.Library) ∷ (codes "acquire", k.Library) ∷ (codes "release", k.Library)
    ∷ (codes "spawn", k.Spawn) ∷ []

-- any other word of at most 64 bytes is a name
abbrev pub name_kind : List ℕ → List ℕ → Kind
name_kind own word = if is_name word then (if bytes_eq word own then k.Own else k.Name) else k.Other

-- what a word is in a section whose header has this name
abbrev pub word_kind : List ℕ → List ℕ → Kind
word_kind own word = kind_in type_words (kind_in statement_words (kind_in reserved_words (name_kind own word) word) word) word

-- the name may stand in a header: it is no word of the grammar
abbrev pub is_header_name : List ℕ → Bool
is_header_name name = same k.Own (word_kind name name)

-- ---- signs

-- brackets, and what stands between parts
abbrev pub separators : List (List ℕ × Kind)
separators =
    (codes "(", k.LeftParen) ∷ (codes ")", k.RightParen) ∷ (codes "{", k.LeftBrace) ∷ (codes "}", k.RightBrace) ∷ (codes "[", k.LeftBracket) ∷ (codes "]", k.RightBracket)
    ∷ (codes ";", k.Semicolon) ∷ (codes ",", k.Comma) ∷ (codes "=", k.Assign) ∷ []

-- the operators of one byte
abbrev pub operators : List (List ℕ × Kind)
operators =
    (codes "|", k.Or) ∷ (codes "^", k.Xor) ∷ (codes "&", k.And) ∷ (codes "<", k.Less) ∷ (codes ">", k.Greater) ∷ (codes "+", k.Plus) ∷ (codes "-", k.Minus) ∷ (codes "*", k.Star)
    ∷ (codes "/", k.Slash) ∷ (codes "%", k.Percent) ∷ (codes "!", k.Not) ∷ (codes "~", k.Tilde) ∷ (codes ".", k.Dot) ∷ []

-- the operators of two bytes
abbrev pub double_operators : List (List ℕ × Kind)
double_operators =
    (codes "==", k.Equal) ∷ (codes "!=", k.NotEqual) ∷ (codes "<=", k.LessEqual) ∷ (codes ">=", k.GreaterEqual) ∷ (codes "<<", k.ShiftLeft) ∷ (codes ">>", k.ShiftRight)
    ∷ (codes "->", k.Arrow) ∷ []

-- what a sign is
abbrev pub sign_kind : List ℕ → Kind
sign_kind sign = kind_in separators (kind_in operators (kind_in double_operators k.Other sign) sign) sign

-- ---- numbers

-- the number that a token spells, within its limit: with `u` it may have 32 bits, without 31
abbrev pub number_in : List ℕ → Option ℕ
number_in digits = if has_suffix digits then at_most 4294967295 (number_of digits) else at_most 2147483647 (number_of digits)

-- An array has 1 to 65,536 elements.
abbrev pub is_length : ℕ → Bool
is_length n = nat_le 1 n && nat_le n 65536

-- what a number is, where it is within its limit
abbrev pub number_kind : Option ℕ → Kind
number_kind None = k.Other
number_kind (Some n) = if is_length n then k.Length else k.Number

-- the number, else 0
abbrev pub value_or_zero : Option ℕ → ℕ
value_or_zero None = 0
value_or_zero (Some n) = n

-- ---- tokens

-- a token that is no number
abbrev pub named_lexeme : Kind → Token → Lexeme
named_lexeme kind t = record { kind = kind; place = t.place; spelling = t.spelling; value = 0; is_unsigned = false }

-- a number's token
abbrev pub number_lexeme : Option ℕ → Token → Lexeme
number_lexeme n t = record { kind = number_kind n; place = t.place; spelling = t.spelling; value = value_or_zero n; is_unsigned = has_suffix t.spelling }

-- what a token of this shape is in a section whose header has this name
abbrev pub lexeme_as : List ℕ → TokenKind → Token → Lexeme
lexeme_as own shape.Word t = named_lexeme (word_kind own t.spelling) t
lexeme_as own shape.Number t = number_lexeme (number_in t.spelling) t
lexeme_as own shape.Sign t = named_lexeme (sign_kind t.spelling) t

-- what a token is in a section whose header has this name
abbrev pub lexeme_in : List ℕ → Token → Lexeme
lexeme_in own t = lexeme_as own t.kind t

-- what the tokens are
abbrev pub lexemes_in : List ℕ → List Token → List Lexeme
lexemes_in own ts = map (lexeme_in own) ts
