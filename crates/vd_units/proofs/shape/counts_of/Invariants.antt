use Rattle.std.proofs.Common.{take}
use Rattle.vd_singles.specs.Table.{CountsNames}
use Rattle.vd_units.proofs.shape.counts_of.Given as goal

abbrev pub invariant-loop-name : goal.invariant-loop-name
invariant-loop-name l = CountsNames (take l.name-index l.names) l.counts
