use Rattle.std.proofs.Common.{◌≡◌, ◌≤◌, length}
use Rattle.vd_tokens.specs.Number.{number_from, number_of}
use Rattle.vd_tokens.proofs.number.number_of.Given as goal

abbrev pub invariant-digits : goal.invariant-digits
invariant-digits l = (number_from l.number l.left ≡ number_of l.spelling) × (l.number ≤ l.most)

abbrev pub decreases-digits : goal.decreases-digits
decreases-digits l = length l.left
