use Rattle.std.proofs.Common.{◌≡◌, ◌+◌, length}
use Rattle.vd_section.specs.HeaderLine.{word_of}
use Rattle.vd_section.proofs.word.word_len.Given as goal

abbrev pub invariant-word : goal.invariant-word
invariant-word l = (l.n + length (word_of l.left) ≡ length (word_of l.bytes)) × (l.n + length l.left ≡ length l.bytes)

abbrev pub decreases-word : goal.decreases-word
decreases-word l = length l.left
