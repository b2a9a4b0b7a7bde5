use Rattle.std.proofs.Common.{◌≡◌, ◌++◌, drop}
use Rattle.vd_tokens.specs.Lexeme as plain
use Rattle.vd_cgrammar.specs.Lexeme.{lexemes_of}
use Rattle.vd_cgrammar.specs.Words.{lexemes_in}
use Rattle.vd_cparse.proofs.lex.with_tokens.Given as goal

abbrev pub invariant-tokens : goal.invariant-tokens
invariant-tokens l = lexemes_of l.found.items ++ lexemes_in l.own (plain.lexemes_of (drop l.token-index l.tokens)) ≡ lexemes_of l.fn.front.items ++ lexemes_in l.own (plain.lexemes_of l.tokens)
