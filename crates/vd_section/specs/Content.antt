-- The tokens of a section behind its header line, where `lexemes` says what the tokens of a text are in the section, and `end_line` what the line `end` at a place is.
use Rattle.std.specs.Prelude.{ℕ, ◌+◌, ◌≡◌, true, List, ◌∷◌, ◌++◌, take, drop, Option, None, Some}
use Rattle.vd_tokens.specs.declared.alphabet.Alphabet.{Alphabet}
use Rattle.vd_tokens.specs.declared.token.End.{End}
use Rattle.vd_tokens.specs.declared.token.End.TheVariants as last
use Rattle.vd_tokens.specs.Lexeme.{Lexeme as Token}
use Rattle.vd_tokens.specs.Text.{Tokenizes}
use Rattle.vd_section.specs.EndLine.{end_at}

module _ {Lexeme : Type 0} (alphabet : Alphabet) (lexemes : List Token → List Lexeme) (end_line : ℕ → Lexeme) where
  -- the tokens of bytes that begin at a place
  pub record Lexes (place : ℕ) (bytes : List ℕ) (ts : List Lexeme) (end : End) : Type 0 where
    pub tokens : List Token
    pub tokenized : Tokenizes alphabet place bytes tokens end
    pub are : ts ≡ lexemes tokens

  -- Behind tokens stand the line `end` and the tokens of what follows it.
  pub record Continued (place : ℕ) (behind : List ℕ) (front ts : List Lexeme) (end : End) : Type 0 where
    pub back : List Lexeme
    pub follows : Lexes (place + 4) behind back end
    pub joined : ts ≡ front ++ end_line place ∷ back

  -- The section goes on behind its content, unless a byte of the content begins no token.
  abbrev pub Continues : ℕ → List ℕ → End → List Lexeme → List Lexeme → End → Type 0
  Continues place behind (last.Unknown at) front ts end = (ts ≡ front) × (end ≡ last.Unknown at)
  Continues place behind (last.Text at) front ts end = Continued place behind front ts end

  -- the content ends at the first line `end`
  pub record IsClosed (place : ℕ) (body : List ℕ) (n : ℕ) (ts : List Lexeme) (end : End) : Type 0 where
    pub front : List Lexeme
    pub middle : End
    pub content : Lexes place (take n body) front middle
    pub behind : Continues (place + n) (drop (n + 4) body) middle front ts end

  -- what stands behind a header line, by where its first line `end` begins
  abbrev pub HasTokensBy : Option ℕ → ℕ → List ℕ → List Lexeme → End → Type 0
  HasTokensBy None place body ts end = Lexes place body ts end
  HasTokensBy (Some n) place body ts end = IsClosed place body n ts end

  -- the tokens of what stands behind a header line
  abbrev pub HasTokens : ℕ → List ℕ → List Lexeme → End → Type 0
  HasTokens place body ts end = HasTokensBy (end_at true body) place body ts end
