use Rattle.std.proofs.Common.{arith, rules}
use Rattle.std.proofs.lemmas.Int.{ints}
use Rattle.vd_machine.proofs.word.subtract.Goals as goal

pub overflow_sub-number : goal.overflow_sub-number
overflow_sub-number c = omega (arith, ints)

pub returns-in-Signed : goal.returns-in-Signed
returns-in-Signed c = search rules

pub returns-in-Unsigned : goal.returns-in-Unsigned
returns-in-Unsigned c = search rules
