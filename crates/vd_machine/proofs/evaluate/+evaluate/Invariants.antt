use Rattle.std.proofs.Common.{map}
use Rattle.vd_machine.specs.Results.{part_moves}
use Rattle.vd_machine.specs.Results.{Walked}
use Rattle.vd_machine.proofs.evaluate.+evaluate.Given as goal

abbrev pub invariant-walk-loop-part : goal.invariant-walk-loop-part
invariant-walk-loop-part l = Walked (map (part_moves l.globals l.temps) l.path) l.from l.part-index l.offset
