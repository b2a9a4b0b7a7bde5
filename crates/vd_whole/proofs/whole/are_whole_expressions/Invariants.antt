use Rattle.std.proofs.Common.{◌≡◌, true, take}
use Rattle.std.specs.List.{list_all}
use Rattle.vd_clight.specs.Whole as whole
use Rattle.vd_whole.proofs.whole.are_whole_expressions.Given as goal

abbrev pub invariant-loop-e : goal.invariant-loop-e
invariant-loop-e l = list_all (whole.is_whole_expression l.names.program.now l.temps) (take l.e-index l.es) ≡ true
