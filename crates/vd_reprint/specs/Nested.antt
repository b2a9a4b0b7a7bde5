-- How deeply what is printed of a function is nested.
use Rattle.std.specs.Prelude.{ℕ, List}
use Rattle.vd_clight.specs.declared.syntax.FnText.{FnText}
use Rattle.vd_clight.specs.Printed.{function_words}
use Rattle.vd_grammar.specs.Grammar.{Is}
use Rattle.vd_cgrammar.specs.declared.depth.Depth.{Depth}
use Rattle.vd_cgrammar.specs.Grammar.{grammar, Function}
use Rattle.vd_cgrammar.specs.Lexeme.{Lexeme}
use Rattle.vd_cgrammar.specs.Precedence.{Vocabulary}
use Rattle.vd_cgrammar.specs.Shallow.{Shallow}
use Rattle.vd_cgrammar.specs.Standing.{AreRead, spellings}

-- What is printed of a function is nested no more deeply than any tokens that are read as it.
abbrev pub FunctionsAreShallow : Type 0
FunctionsAreShallow = (V : Vocabulary) (f : FnText) (ts : List Lexeme) (most : ℕ) (d : Depth) → Is grammar Function ts f → AreRead V ts → Shallow V most d (spellings ts) → Shallow V most d (function_words f)
