use Rattle.std.proofs.Common.{take}
use Rattle.vd_judge.specs.Environment.{function_names}
use Rattle.vd_judge.specs.NameTable.{Numbers}
use Rattle.vd_ctyping.proofs.index.number_functions.Given as goal

abbrev pub invariant-loop-number : goal.invariant-loop-number
invariant-loop-number l = Numbers l.table (function_names (take l.number l.functions))
