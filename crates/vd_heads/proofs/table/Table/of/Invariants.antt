use Rattle.std.proofs.Common.{take}
use Rattle.vd_heads.specs.Views.{IsTable}
use Rattle.vd_heads.proofs.table.Table.of.Given as goal

abbrev pub invariant-loop-number : goal.invariant-loop-number
invariant-loop-number l = IsTable (take l.number l.parts) l.table
