use Rattle.std.proofs.Common.{◌≡◌, length}
use Rattle.vd_grammar.specs.Outcome.{with_front}
use Rattle.vd_cgrammar.specs.Grammar.{Declarations}
use Rattle.vd_cgrammar.specs.Read.{read}
use Rattle.vd_ctext.proofs.parameters.declarations.Given as goal

abbrev pub invariant-found : goal.invariant-found
invariant-found l = with_front l.found (read Declarations l.tokens) ≡ read Declarations l.fn.tokens

abbrev pub decreases-found : goal.decreases-found
decreases-found l = length l.tokens
