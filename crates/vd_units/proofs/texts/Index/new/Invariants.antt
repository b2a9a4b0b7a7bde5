use Rattle.std.proofs.Common.{take}
use Rattle.vd_units.specs.Index.{IsIndexOf}
use Rattle.vd_units.proofs.texts.Index.new.Given as goal

abbrev pub invariant-loop-name : goal.invariant-loop-name
invariant-loop-name l = IsIndexOf (take l.name-index l.snapshot.texts) l.index
