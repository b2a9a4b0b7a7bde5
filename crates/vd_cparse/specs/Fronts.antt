-- What stands in front of a text: the tokens that a reader is given, or a fault of the header line.
use Rattle.std.specs.Prelude.{ℕ, ◌≡◌, List, Result, Ok, Err}
use Rattle.vd_grammar.specs.declared.fault.ParseFault.{ParseFault}
use Rattle.vd_grammar.specs.declared.fault.ParseFault.TheVariants as fault
use Rattle.vd_grammar.specs.declared.fault.Cause.{Cause}
use Rattle.vd_tokens.specs.declared.alphabet.Alphabet.{Alphabet}
use Rattle.vd_tokens.specs.declared.token.End.{End}
use Rattle.vd_tokens.specs.Lexeme.{Lexeme as Token}
use Rattle.vd_tokens.specs.Text.{Tokenizes}
use Rattle.vd_cparse.specs.declared.lex.Front.{Front}
use Rattle.vd_cgrammar.specs.Lexeme.{Lexeme, lexemes_of}
use Rattle.vd_cparse.specs.HeaderLine.{found, header_of}
use Rattle.vd_cgrammar.specs.Tokens.{IsCut}
use Rattle.vd_cparse.specs.Section.{HasTokens, IsHeaderFault, is_text, place_of_end, first_place}

-- the place of the first token of bytes that begin at a place
pub record IsFirstPlace (alphabet : Alphabet) (place : ℕ) (bytes : List ℕ) (at : ℕ) : Type 0 where
  pub tokens : List Token
  pub end : End
  pub tokenized : Tokenizes alphabet place bytes tokens end
  pub place_is : at ≡ first_place tokens end

-- the place is found, unless memory fails
abbrev pub FirstPlace : Alphabet → ℕ → List ℕ → Result ℕ ParseFault → Type 0
FirstPlace alphabet place bytes (Ok at) = IsFirstPlace alphabet place bytes at
FirstPlace alphabet place bytes (Err why) = why ≡ fault.Memory

-- the tokens of what stands behind a header line, up to the first that is nested too deeply
pub record IsContent (alphabet : Alphabet) (own : List ℕ) (behind : ℕ) (body : List ℕ) (front : List Lexeme) (why : Cause) (at : ℕ) : Type 0 where
  pub tokens : List Lexeme
  pub end : End
  pub has : HasTokens alphabet own behind body tokens end
  pub is_cut : IsCut tokens (is_text end) (place_of_end end) front why at

-- the same of a text that begins with a header line of the kind
pub record IsFront (alphabet : Alphabet) (kind text : List ℕ) (front : List Lexeme) (why : Cause) (at : ℕ) : Type 0 where
  pub own : List ℕ
  pub behind : ℕ
  pub body : List ℕ
  pub cut : header_of kind text ≡ found own behind body
  pub content : IsContent alphabet own behind body front why at

-- the tokens, or the fault of the header line, unless memory fails
abbrev pub HasFront : Alphabet → List ℕ → List ℕ → Result Front ParseFault → Type 0
HasFront alphabet kind text (Ok front) = IsFront alphabet kind text (lexemes_of front.tokens.items) front.cause front.at
HasFront alphabet kind text (Err (fault.Bad at)) = IsHeaderFault alphabet kind text at
HasFront alphabet kind text (Err (fault.Deep at)) = ⊥
HasFront alphabet kind text (Err fault.Memory) = Unit {0}
