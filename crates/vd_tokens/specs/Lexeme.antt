-- A token as plain data.
use Rattle.std.specs.Prelude.{ℕ, List, map}
use Rattle.vd_tokens.specs.declared.token.TokenKind.{TokenKind}
use Rattle.vd_tokens.specs.declared.token.Token.{Token}

-- a token, without the memory of its text
pub record Lexeme : Type 0 where
  pub kind : TokenKind
  -- where it begins
  pub place : ℕ
  -- its bytes
  pub spelling : List ℕ

-- a token of the code
abbrev pub lexeme_of : Token → Lexeme
lexeme_of t = record { kind = t.kind; place = t.place; spelling = t.spelling.now }

-- the tokens of the code, in order
abbrev pub lexemes_of : List Token → List Lexeme
lexemes_of = map lexeme_of
