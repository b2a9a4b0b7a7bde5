-- What the reader of a section takes words for.
use Rattle.std.specs.Prelude.{ℕ, ◌≡◌, List, map, Option, Some}
use Rattle.vd_tokens.specs.declared.alphabet.Alphabet.TheVariants.{C}
use Rattle.vd_tokens.specs.declared.token.TokenKind.{TokenKind}
use Rattle.vd_tokens.specs.declared.token.TokenKind.TheVariants as shape
use Rattle.vd_tokens.specs.declared.token.End.{End}
use Rattle.vd_tokens.specs.Lexeme.{Lexeme as Token}
use Rattle.vd_tokens.specs.Shapes.{shape_of}
use Rattle.vd_tokens.specs.Text.{Shape, Token as TokenShape, Tokenizes}
use Rattle.vd_cgrammar.specs.Lexeme.{Lexeme}
use Rattle.vd_cgrammar.specs.Words.{lexeme_in, lexemes_in}
use Rattle.vd_cgrammar.specs.PrintLaw.{SpacedWord, spaced_tokens}
use Rattle.vd_cgrammar.specs.Precedence.{Vocabulary}
use Rattle.vd_cgrammar.specs.Standing.{AreTokens, AreRead}

-- the shape of a token
abbrev pub token_shape : Option Shape → TokenKind
token_shape (Some (TokenShape kind)) = kind
token_shape _ = shape.Sign

-- what the word is in a section whose header has this name
abbrev pub lexeme_at : List ℕ → List ℕ → Lexeme
lexeme_at own w = lexeme_in own (record { kind = token_shape (shape_of C w); place = 0; spelling = w })

-- The vocabulary takes words for what a section with this name has them.
pub record IsVocabulary (own : List ℕ) (V : Vocabulary) : Type 0 where
  pub kinds : (w : List ℕ) → V.kind_at w ≡ (lexeme_at own w).kind
  pub values : (w : List ℕ) → V.value_at w ≡ (lexeme_at own w).value
  pub suffixes : (w : List ℕ) → V.unsigned_at w ≡ (lexeme_at own w).is_unsigned

-- A section's words are a vocabulary: tokens of a text are what it takes them for, and so are words with spaces between them.
pub record HasVocabulary (own : List ℕ) : Type 0 where
  pub vocabulary : Vocabulary
  pub is : IsVocabulary own vocabulary
  pub read : (place : ℕ) (text : List ℕ) (ts : List Token) (end : End) → Tokenizes C place text ts end → AreRead vocabulary (lexemes_in own ts)
  pub spaced : (place : ℕ) (xs : List SpacedWord) → AreTokens vocabulary (lexemes_in own (spaced_tokens place xs)) (map (λ x. x.word) xs)

abbrev pub SectionsHaveVocabularies : Type 0
SectionsHaveVocabularies = (own : List ℕ) → HasVocabulary own
