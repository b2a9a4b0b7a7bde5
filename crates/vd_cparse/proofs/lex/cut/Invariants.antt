use Rattle.std.proofs.Common.{drop}
use Rattle.vd_grammar.specs.SectionLaws.{Cutting}
use Rattle.vd_cgrammar.specs.Grammar.{grammar}
use Rattle.vd_cgrammar.specs.Lexeme.{lexemes_of}
use Rattle.vd_cgrammar.specs.Nesting.{nesting}
use Rattle.vd_cgrammar.specs.Tokens.{place}
use Rattle.vd_cparse.proofs.lex.cut.Given as goal

abbrev pub invariant-tokens : goal.invariant-tokens
invariant-tokens l = Cutting grammar nesting place (lexemes_of l.tokens) (lexemes_of l.found.items) (lexemes_of (drop l.token-index l.tokens)) l.depth
