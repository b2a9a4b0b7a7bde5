use Rattle.std.proofs.Common.{◌≡◌, length, ◌+◌, ◌*◌, ◌≤◌}
use Rattle.vd_grammar.specs.Outcome.{with_front}
use Rattle.vd_cgrammar.specs.Grammar.{Postfixes, Operations}
use Rattle.vd_cgrammar.specs.Read.{read}
use Rattle.vd_ctext.proofs.expression.+expression.Given as goal

abbrev pub decreases-prefix : goal.decreases-prefix
decreases-prefix l = 8 * length l.tokens.now

abbrev pub decreases-number : goal.decreases-number
decreases-number l = 8 * length l.tokens.now

abbrev pub decreases-name : goal.decreases-name
decreases-name l = 8 * length l.tokens.now

abbrev pub decreases-paren : goal.decreases-paren
decreases-paren l = 8 * length l.tokens.now

abbrev pub decreases-postfixes : goal.decreases-postfixes
decreases-postfixes l = 8 * length l.tokens.now

abbrev pub decreases-operations : goal.decreases-operations
decreases-operations l = 8 * length l.tokens.now

abbrev pub decreases-cast : goal.decreases-cast
decreases-cast l = 8 * length l.tokens.now + 4

abbrev pub decreases-plain : goal.decreases-plain
decreases-plain l = 8 * length l.tokens.now + 1

abbrev pub decreases-unary : goal.decreases-unary
decreases-unary l = 8 * length l.tokens.now + 2

abbrev pub decreases-expression : goal.decreases-expression
decreases-expression l = 8 * length l.tokens.now + 4

abbrev pub decreases-expression_rule : goal.decreases-expression_rule
decreases-expression_rule l = 8 * length l.tokens.now + 3

abbrev pub decreases-brackets : goal.decreases-brackets
decreases-brackets l = 8 * length l.tokens.now + 5

abbrev pub decreases-after_paren : goal.decreases-after_paren
decreases-after_paren l = 8 * length l.tokens.now + 6

abbrev pub invariant-operations-found : goal.invariant-operations-found
invariant-operations-found l = (with_front l.found (read Operations l.tokens) ≡ read Operations l.fn.tokens) × (length l.tokens ≤ length l.fn.tokens)

abbrev pub decreases-operations-found : goal.decreases-operations-found
decreases-operations-found l = length l.tokens

abbrev pub invariant-postfixes-found : goal.invariant-postfixes-found
invariant-postfixes-found l = (with_front l.found (read Postfixes l.tokens) ≡ read Postfixes l.fn.tokens) × (length l.tokens ≤ length l.fn.tokens)

abbrev pub decreases-postfixes-found : goal.decreases-postfixes-found
decreases-postfixes-found l = length l.tokens
