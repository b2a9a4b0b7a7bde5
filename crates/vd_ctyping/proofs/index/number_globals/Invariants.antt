use Rattle.std.proofs.Common.{take}
use Rattle.vd_judge.specs.Environment.{global_names}
use Rattle.vd_judge.specs.NameTable.{Numbers}
use Rattle.vd_ctyping.proofs.index.number_globals.Given as goal

abbrev pub invariant-loop-number : goal.invariant-loop-number
invariant-loop-number l = Numbers l.table (global_names (take l.number l.globals))
