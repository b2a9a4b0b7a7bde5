-- What is true of printed text: its tokens are the words that are meant, and its numbers are the numbers meant.
use Rattle.std.specs.Prelude.{ℕ, ◌+◌, ◌^◌, ◌<◌, ◌≡◌, Bool, true, List, [], ◌∷◌, ◌++◌, length, flat_map}
use Rattle.vd_tokens.specs.declared.alphabet.Alphabet.TheVariants.{C}
use Rattle.vd_tokens.specs.declared.token.TokenKind.{TokenKind}
use Rattle.vd_tokens.specs.declared.token.TokenKind.TheVariants as kind
use Rattle.vd_tokens.specs.declared.token.End.TheVariants as end
use Rattle.vd_tokens.specs.Bytes.{is_blank}
use Rattle.vd_tokens.specs.Lexeme.{Lexeme}
use Rattle.vd_tokens.specs.Number.{number_of, has_suffix}
use Rattle.vd_tokens.specs.Text.{Token, IsElement, Tokenizes}
use Rattle.vd_clight.specs.Printed.{number_text}

-- A token of C, and the space or line feed behind it.
pub record SpacedWord : Type 0 where
  pub kind : TokenKind
  pub word : List ℕ
  pub blank : ℕ
  pub is_token : IsElement C (Token kind) word
  pub is_space : is_blank blank ≡ true

-- the words with what is behind each
abbrev pub spaced_text : List SpacedWord → List ℕ
spaced_text = flat_map (λ x. x.word ++ x.blank ∷ [])

-- the words as the tokens of a text that begins at a place
abbrev pub spaced_tokens : ℕ → List SpacedWord → List Lexeme
spaced_tokens place [] = []
spaced_tokens place (x ∷ xs) =
    record { kind = x.kind; place = place; spelling = x.word } ∷ spaced_tokens (place + length x.word + 1) xs

-- words with a space behind each are the text's tokens
abbrev pub SpacedWordsAreTokens : Type 0
SpacedWordsAreTokens = (place : ℕ) (xs : List SpacedWord)
    → Tokenizes C place (spaced_text xs) (spaced_tokens place xs) (end.Text (place + length (spaced_text xs)))

-- A number's text is a token that spells it.
pub record IsNumberText (n : ℕ) (unsigned : Bool) : Type 0 where
  pub is_token : IsElement C (Token kind.Number) (number_text n unsigned)
  pub value : number_of (number_text n unsigned) ≡ n
  pub suffix : has_suffix (number_text n unsigned) ≡ unsigned

abbrev pub NumbersAreSpelled : Type 0
NumbersAreSpelled = (n : ℕ) (unsigned : Bool) → n < 2 ^ 64 → IsNumberText n unsigned
