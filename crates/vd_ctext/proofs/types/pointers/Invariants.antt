use Rattle.std.proofs.Common.{◌≡◌, length, ◌≤◌}
use Rattle.vd_cgrammar.specs.Grammar.{Stars}
use Rattle.vd_cgrammar.specs.Read.{read}
use Rattle.vd_ctext.specs.Tails.{reads_pointers}
use Rattle.vd_ctext.proofs.types.pointers.Given as goal

abbrev pub invariant-stars : goal.invariant-stars
invariant-stars l = (reads_pointers l.found (read Stars l.tokens) ≡ reads_pointers l.fn.base (read Stars l.fn.tokens)) × (length l.tokens ≤ length l.fn.tokens)

abbrev pub decreases-stars : goal.decreases-stars
decreases-stars l = length l.tokens
