-- A token of a C section, without the text's memory.
use Rattle.std.specs.Prelude.{ℕ, Bool, List, [], ◌∷◌, map}
use Rattle.vd_cgrammar.specs.declared.kind.Kind.{Kind}
use Rattle.vd_cgrammar.specs.declared.kind.Kind.TheVariants.{End}
use Rattle.vd_cgrammar.specs.declared.token.Token.{Token}

-- a token with its kind
pub record Lexeme : Type 0 where
  pub kind : Kind
  -- where it begins in the section
  pub place : ℕ
  -- its bytes
  pub spelling : List ℕ
  -- the number that it spells, and whether `u` stands behind it
  pub value : ℕ
  pub is_unsigned : Bool

-- the kind of the next token
abbrev pub kind_of : List Lexeme → Kind
kind_of [] = End
kind_of (t ∷ ts) = t.kind

-- a token of the code
abbrev pub lexeme_of : Token → Lexeme
lexeme_of t = record { kind = t.kind; place = t.place; spelling = t.spelling.now; value = t.value; is_unsigned = t.is_unsigned }

-- the tokens of the code, in order
abbrev pub lexemes_of : List Token → List Lexeme
lexemes_of = map lexeme_of
