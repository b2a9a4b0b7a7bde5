-- Where reading stops, at this grammar.
use Rattle.std.specs.Prelude.{ℕ, Bool, List, Result}
use Rattle.vd_grammar.specs.declared.fault.Cause.{Cause}
use Rattle.vd_grammar.specs.declared.fault.ParseFault.{ParseFault}
use Rattle.vd_grammar.specs.Section as section
use Rattle.vd_cgrammar.specs.Lexeme.{Lexeme}
use Rattle.vd_cgrammar.specs.Grammar.{Sort, Value, grammar}
use Rattle.vd_cgrammar.specs.Nesting.{nesting}

abbrev pub place : Lexeme → ℕ
place t = t.place

-- no token is left, and the text ends
abbrev pub is_whole : List Lexeme → Cause → Bool
is_whole = section.is_whole grammar nesting place

-- the fault where reading stops
abbrev pub fault_at : List Lexeme → Cause → ℕ → ParseFault
fault_at = section.fault_at grammar nesting place

-- the tokens up to the first that is nested too deeply, or all
abbrev pub IsCut : List Lexeme → Bool → ℕ → List Lexeme → Cause → ℕ → Type 0
IsCut = section.IsCut grammar nesting place

-- what a reader of a sort answers
abbrev pub Answers : (S : Sort) → List Lexeme → Bool → ℕ → Result (Value S) ParseFault → Type 0
Answers S = section.Answers grammar nesting place S
