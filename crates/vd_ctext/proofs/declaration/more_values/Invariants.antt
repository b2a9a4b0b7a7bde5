use Rattle.std.proofs.Common.{◌≡◌, length}
use Rattle.vd_grammar.specs.Outcome.{with_front}
use Rattle.vd_cgrammar.specs.Grammar.{MoreValues}
use Rattle.vd_cgrammar.specs.Read.{read}
use Rattle.vd_ctext.proofs.declaration.more_values.Given as goal

abbrev pub invariant-found : goal.invariant-found
invariant-found l = with_front l.found (read (MoreValues l.left) l.tokens) ≡ with_front l.fn.first (read (MoreValues l.fn.most) l.fn.tokens)

abbrev pub decreases-found : goal.decreases-found
decreases-found l = length l.tokens
