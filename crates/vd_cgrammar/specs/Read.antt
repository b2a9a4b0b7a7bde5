-- What the reader computes.
use Rattle.std.specs.Prelude.{List}
use Rattle.vd_grammar.specs.Outcome.{Outcome}
use Rattle.vd_grammar.specs.Reading as reading
use Rattle.vd_cgrammar.specs.declared.kind.Class.{Class}
use Rattle.vd_cgrammar.specs.Lexeme.{Lexeme}
use Rattle.vd_cgrammar.specs.Grammar.{Sort, Value, Rule, grammar}

-- a token of a class
abbrev pub expect : Class → List Lexeme → Outcome Lexeme Lexeme
expect = reading.expect grammar

-- what is read of the tokens
abbrev pub read : (S : Sort) → List Lexeme → Outcome Lexeme (Value S)
read = reading.read grammar

-- what the rule reads
abbrev pub read_rule : {S : Sort} → Rule S → List Lexeme → Outcome Lexeme (Value S)
read_rule rule ts = reading.read_rule grammar rule ts
