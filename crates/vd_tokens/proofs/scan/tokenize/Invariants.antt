use Rattle.std.proofs.Common.{length}
use Rattle.vd_tokens.specs.Lexeme.{lexemes_of}
use Rattle.vd_tokens.proofs.Scanning.{Scanned}
use Rattle.vd_tokens.proofs.scan.tokenize.Given as goal

abbrev pub invariant-tokens : goal.invariant-tokens
invariant-tokens l = Scanned l.alphabet l.place l.at l.text l.left (lexemes_of l.tokens.items)

abbrev pub decreases-tokens : goal.decreases-tokens
decreases-tokens l = length l.left
