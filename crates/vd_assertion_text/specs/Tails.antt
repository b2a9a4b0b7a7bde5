-- A type that is read behind another.
use Rattle.std.specs.Prelude.{ℕ}
use Rattle.vd_base.specs.declared.ctype.CType.{CType}
use Rattle.vd_grammar.specs.Outcome.{Outcome, then_make}
use Rattle.vd_logic_grammar.specs.Lexeme.{Lexeme}
use Rattle.vd_logic_grammar.specs.Syntax.{pointers}

-- the type with the stars that are read behind it
abbrev pub reads_pointers : CType → Outcome Lexeme ℕ → Outcome Lexeme CType
reads_pointers t outcome = then_make outcome (λ n. pointers n t)
