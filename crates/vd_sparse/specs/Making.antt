-- What a reader makes of the tokens of a section.
use Rattle.std.specs.Prelude.{ℕ, List, Result}
use Rattle.vd_grammar.specs.declared.fault.ParseFault.{ParseFault}
use Rattle.vd_logic_grammar.specs.declared.front.Front.{Front}
use Rattle.vd_logic_grammar.specs.Fronts.{IsFront}
use Rattle.vd_logic_grammar.specs.Lexeme.{lexemes_of}
use Rattle.vd_sparse.specs.declared.kind.SectionKind.{SectionKind}
use Rattle.vd_sparse.specs.declared.text.LogicText.{LogicText}
use Rattle.vd_sparse.specs.Sections.{language_of, header_of, AnswersKind}

-- the answer to each text that has these tokens behind a header line with this name
abbrev pub Makes : SectionKind → Front → Result LogicText ParseFault → Type 0
Makes k front answer = (text : List ℕ) → IsFront (language_of k) (header_of k text) front.own.now (lexemes_of front.tokens.items) front.cause front.at → AnswersKind k text answer
