use Rattle.std.proofs.Common.{◌≡◌, length, ◌+◌, ◌*◌, ◌≤◌}
use Rattle.vd_grammar.specs.Outcome.{with_front}
use Rattle.vd_cgrammar.specs.Grammar.{Statements}
use Rattle.vd_cgrammar.specs.Read.{read}
use Rattle.vd_ctext.proofs.statement.+statement.Given as goal

abbrev pub decreases-if_else : goal.decreases-if_else
decreases-if_else l = 8 * length l.tokens.now

abbrev pub decreases-otherwise : goal.decreases-otherwise
decreases-otherwise l = 8 * length l.tokens.now + 1

abbrev pub decreases-while_loop : goal.decreases-while_loop
decreases-while_loop l = 8 * length l.tokens.now

abbrev pub decreases-block : goal.decreases-block
decreases-block l = 8 * length l.tokens.now + 1

abbrev pub decreases-block_rule : goal.decreases-block_rule
decreases-block_rule l = 8 * length l.tokens.now

abbrev pub decreases-else_block : goal.decreases-else_block
decreases-else_block l = 8 * length l.tokens.now

abbrev pub decreases-statement : goal.decreases-statement
decreases-statement l = 8 * length l.tokens.now + 1

abbrev pub decreases-statements : goal.decreases-statements
decreases-statements l = 8 * length l.tokens.now + 2

abbrev pub invariant-statements-found : goal.invariant-statements-found
invariant-statements-found l =
    (with_front l.found (read (Statements l.inside) l.tokens) ≡ read (Statements l.inside) l.fn.tokens) × (length l.tokens ≤ length l.fn.tokens)

abbrev pub decreases-statements-found : goal.decreases-statements-found
decreases-statements-found l = length l.tokens
