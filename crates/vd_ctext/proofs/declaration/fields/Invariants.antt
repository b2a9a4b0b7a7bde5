use Rattle.std.proofs.Common.{◌≡◌, length}
use Rattle.vd_grammar.specs.Outcome.{with_front}
use Rattle.vd_cgrammar.specs.Grammar.{Fields}
use Rattle.vd_cgrammar.specs.Read.{read}
use Rattle.vd_ctext.proofs.declaration.fields.Given as goal

abbrev pub invariant-found : goal.invariant-found
invariant-found l = with_front l.found (read Fields l.tokens) ≡ read Fields l.fn.tokens

abbrev pub decreases-found : goal.decreases-found
decreases-found l = length l.tokens
