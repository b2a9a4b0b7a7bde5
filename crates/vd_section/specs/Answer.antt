-- What a reader of sections answers, over any grammar.
use Rattle.std.specs.Prelude.{ℕ, ◌≡◌, ◌⊎◌, List, Result, Ok, Err}
use Rattle.vd_grammar.specs.declared.fault.ParseFault.{ParseFault}
use Rattle.vd_grammar.specs.declared.fault.ParseFault.TheVariants as fault
use Rattle.vd_grammar.specs.Grammar.{Grammar}
use Rattle.vd_grammar.specs.Nesting.{Nesting}
use Rattle.vd_grammar.specs.Section.{Answers}
use Rattle.vd_tokens.specs.declared.alphabet.Alphabet.{Alphabet}
use Rattle.vd_tokens.specs.declared.token.End.{End}
use Rattle.vd_tokens.specs.Lexeme.{Lexeme as Token}
use Rattle.vd_section.specs.Content.{HasTokens}
use Rattle.vd_section.specs.HeaderLine.{HeaderCut, found, missing}
use Rattle.vd_section.specs.Place.{is_text, place_of_end, IsFirstPlace}

-- A value, or a fault, where the value is made of another.
abbrev pub made_of : {A B : Type 0} → (A → B) → Result A ParseFault → Result B ParseFault
made_of f (Ok x) = Ok (f x)
made_of f (Err why) = Err why

-- There is no header line: the fault is at the first token behind what may stand in one.
pub record IsHeaderFault (alphabet : Alphabet) (header : HeaderCut) (at : ℕ) : Type 0 where
  pub front : ℕ
  pub rest : List ℕ
  pub cut : header ≡ missing front rest
  pub first : IsFirstPlace alphabet front rest at

-- A language: its signs, what the tokens of a text are in a section whose header has a name, and what the line `end` is.
module _ (G : Grammar) (N : Nesting G) (place : G.Token → ℕ) (alphabet : Alphabet) (lexemes : List ℕ → List Token → List G.Token) (end_line : ℕ → G.Token) where
  -- There is a header line, and the answer is that of the tokens behind it, made with the header's name.
  pub record IsRead (S : G.Sort) (A : Type 0) (made : List ℕ → G.Value S → A) (header : HeaderCut) (answer : Result A ParseFault) : Type 0 where
    pub own : List ℕ
    pub behind : ℕ
    pub body : List ℕ
    pub tokens : List G.Token
    pub end : End
    pub read : Result (G.Value S) ParseFault
    pub cut : header ≡ found own behind body
    pub has : HasTokens alphabet (lexemes own) end_line behind body tokens end
    pub answers : Answers G N place S tokens (is_text end) (place_of_end end) read
    pub answer_is : answer ≡ made_of (made own) read

  -- what a reader of sections answers, unless memory fails
  abbrev pub AnswersText : (S : G.Sort) (A : Type 0) → (List ℕ → G.Value S → A) → HeaderCut → Result A ParseFault → Type 0
  AnswersText S A made header (Ok x) = IsRead S A made header (Ok x)
  AnswersText S A made header (Err (fault.Bad at)) = IsHeaderFault alphabet header at ⊎ IsRead S A made header (Err (fault.Bad at))
  AnswersText S A made header (Err (fault.Deep at)) = IsRead S A made header (Err (fault.Deep at))
  AnswersText S A made header (Err fault.Memory) = Unit {0}
