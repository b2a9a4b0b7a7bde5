-- What a section is, which tokens it has, and where a text is at fault that is none.
use Rattle.std.specs.Str.{bytes_eq}
use Rattle.std.specs.Prelude.{ℕ, ◌+◌, ◌≡◌, ◌⊎◌, Bool, true, false, List, [], ◌∷◌, ◌++◌, take, drop, codes, Option, None, Some, Result, Ok, Err}
use Rattle.vd_clight.specs.declared.syntax.FnText.{FnText}
use Rattle.vd_grammar.specs.declared.fault.ParseFault.{ParseFault}
use Rattle.vd_grammar.specs.declared.fault.ParseFault.TheVariants as fault
use Rattle.vd_tokens.specs.declared.alphabet.Alphabet.{Alphabet}
use Rattle.vd_tokens.specs.declared.alphabet.Alphabet.TheVariants.{C, Declaration}
use Rattle.vd_tokens.specs.declared.token.End.{End}
use Rattle.vd_tokens.specs.declared.token.End.TheVariants as last
use Rattle.vd_tokens.specs.Lexeme.{Lexeme as Token}
use Rattle.vd_tokens.specs.Text.{Tokenizes}
use Rattle.vd_cgrammar.specs.declared.kind.Kind.TheVariants as k
use Rattle.vd_cgrammar.specs.Lexeme.{Lexeme}
use Rattle.vd_cgrammar.specs.declared.parts.Decl.{Decl}
use Rattle.vd_cgrammar.specs.Grammar.{Sort, Value, FnSection, StructSection, GlobalSection}
use Rattle.vd_cgrammar.specs.Tokens.{Answers}
use Rattle.vd_cgrammar.specs.Words.{lexemes_in}
use Rattle.vd_cparse.specs.HeaderLine.{word_of, found, missing, header_of, end_at}

-- ---- the tokens of a section

abbrev pub is_text : End → Bool
is_text (last.Text place) = true
is_text (last.Unknown place) = false

abbrev pub place_of_end : End → ℕ
place_of_end (last.Text place) = place
place_of_end (last.Unknown place) = place

-- the line `end` is one token, whose name ends the section
abbrev pub end_line : ℕ → Lexeme
end_line place = record { kind = k.EndLine; place = place; spelling = codes "end"; value = 0; is_unsigned = false }

-- the tokens of bytes that begin at a place, in a section whose header has this name
pub record Lexes (alphabet : Alphabet) (own : List ℕ) (place : ℕ) (bytes : List ℕ) (ts : List Lexeme) (end : End) : Type 0 where
  pub tokens : List Token
  pub tokenized : Tokenizes alphabet place bytes tokens end
  pub lexemes : ts ≡ lexemes_in own tokens

-- Behind tokens stand the line `end` and the tokens of what follows it.
pub record Continued (alphabet : Alphabet) (own : List ℕ) (place : ℕ) (behind : List ℕ) (front ts : List Lexeme) (end : End) : Type 0 where
  pub back : List Lexeme
  pub follows : Lexes alphabet own (place + 4) behind back end
  pub joined : ts ≡ front ++ end_line place ∷ back

-- The section goes on behind its content, unless a byte of the content begins no token.
abbrev pub Continues : Alphabet → List ℕ → ℕ → List ℕ → End → List Lexeme → List Lexeme → End → Type 0
Continues alphabet own place behind (last.Unknown at) front ts end = (ts ≡ front) × (end ≡ last.Unknown at)
Continues alphabet own place behind (last.Text at) front ts end = Continued alphabet own place behind front ts end

-- the content ends at the first line `end`
pub record IsClosed (alphabet : Alphabet) (own : List ℕ) (place : ℕ) (body : List ℕ) (n : ℕ) (ts : List Lexeme) (end : End) : Type 0 where
  pub front : List Lexeme
  pub middle : End
  pub content : Lexes alphabet own place (take n body) front middle
  pub behind : Continues alphabet own (place + n) (drop (n + 4) body) middle front ts end

-- what stands behind a header line, by where its first line `end` begins
abbrev pub HasTokensBy : Option ℕ → Alphabet → List ℕ → ℕ → List ℕ → List Lexeme → End → Type 0
HasTokensBy None alphabet own place body ts end = Lexes alphabet own place body ts end
HasTokensBy (Some n) alphabet own place body ts end = IsClosed alphabet own place body n ts end

-- the tokens of what stands behind a header line with this name
abbrev pub HasTokens : Alphabet → List ℕ → ℕ → List ℕ → List Lexeme → End → Type 0
HasTokens alphabet own place body ts end = HasTokensBy (end_at true body) alphabet own place body ts end

-- ---- what a reader answers

-- the place of the first token, or where there is none
abbrev pub first_place : List Token → End → ℕ
first_place [] end = place_of_end end
first_place (t ∷ ts) end = t.place

-- The text has no header line of the kind: the fault is at the first token behind what may stand in one.
pub record IsHeaderFault (alphabet : Alphabet) (kind text : List ℕ) (at : ℕ) : Type 0 where
  pub front : ℕ
  pub rest : List ℕ
  pub tokens : List Token
  pub end : End
  pub cut : header_of kind text ≡ missing front rest
  pub tokenized : Tokenizes alphabet front rest tokens end
  pub place_is : at ≡ first_place tokens end

-- The text has a header line, and the answer is that of the tokens behind it.
pub record IsRead (S : Sort) (alphabet : Alphabet) (kind text : List ℕ) (answer : Result (Value S) ParseFault) : Type 0 where
  pub own : List ℕ
  pub behind : ℕ
  pub body : List ℕ
  pub tokens : List Lexeme
  pub end : End
  pub cut : header_of kind text ≡ found own behind body
  pub has : HasTokens alphabet own behind body tokens end
  pub answers : Answers S tokens (is_text end) (place_of_end end) answer

-- what a reader of sections of a kind answers, unless memory fails
abbrev pub AnswersText : (S : Sort) → Alphabet → List ℕ → List ℕ → Result (Value S) ParseFault → Type 0
AnswersText S alphabet kind text (Ok x) = IsRead S alphabet kind text (Ok x)
AnswersText S alphabet kind text (Err (fault.Bad at)) = IsHeaderFault alphabet kind text at ⊎ IsRead S alphabet kind text (Err (fault.Bad at))
AnswersText S alphabet kind text (Err (fault.Deep at)) = IsRead S alphabet kind text (Err (fault.Deep at))
AnswersText S alphabet kind text (Err fault.Memory) = Unit {0}

-- a function's section
abbrev pub AnswersFn : List ℕ → Result FnText ParseFault → Type 0
AnswersFn text answer = AnswersText FnSection C (codes "fn") text answer

-- the text is the section of this function
abbrev pub IsFnSection : List ℕ → FnText → Type 0
IsFnSection text f = IsRead FnSection C (codes "fn") text (Ok f)

-- a struct's section, and a global's
abbrev pub AnswersStruct : List ℕ → Result Decl ParseFault → Type 0
AnswersStruct text answer = AnswersText StructSection Declaration (codes "struct") text answer

abbrev pub AnswersGlobal : List ℕ → Result Decl ParseFault → Type 0
AnswersGlobal text answer = AnswersText GlobalSection Declaration (codes "global") text answer

abbrev pub AnswersDeclBy : Bool → List ℕ → Result Decl ParseFault → Type 0
AnswersDeclBy true text answer = AnswersGlobal text answer
AnswersDeclBy false text answer = AnswersStruct text answer

-- A section of a declaration is a global's where it begins with that word, else a struct's.
abbrev pub AnswersDecl : List ℕ → Result Decl ParseFault → Type 0
AnswersDecl text answer = AnswersDeclBy (bytes_eq (word_of text) (codes "global")) text answer
