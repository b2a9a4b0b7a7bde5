use Rattle.std.proofs.Common.{take}
use Rattle.vd_judge.specs.Environment.{names_of}
use Rattle.vd_judge.specs.NameTable.{Numbers}
use Rattle.vd_ctyping.proofs.function.number_fields.Given as goal

abbrev pub invariant-loop-number : goal.invariant-loop-number
invariant-loop-number l = Numbers l.table (names_of (take l.number l.fields))
