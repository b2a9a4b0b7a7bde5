use Rattle.std.proofs.Common.{◌≡◌, length, ◌≤◌}
use Rattle.vd_logic_grammar.specs.Grammar.{Stars}
use Rattle.vd_logic_grammar.specs.Read.{read}
use Rattle.vd_assertion_text.specs.Tails.{reads_pointers}
use Rattle.vd_assertion_text.proofs.types.pointers.Given as goal

abbrev pub invariant-stars : goal.invariant-stars
invariant-stars l = (reads_pointers l.found (read Stars l.tokens) ≡ reads_pointers l.fn.base (read Stars l.fn.tokens)) × (length l.tokens ≤ length l.fn.tokens)

abbrev pub decreases-stars : goal.decreases-stars
decreases-stars l = length l.tokens
