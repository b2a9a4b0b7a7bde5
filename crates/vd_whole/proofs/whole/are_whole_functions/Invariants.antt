use Rattle.std.proofs.Common.{◌≡◌, true, take}
use Rattle.std.specs.List.{list_all}
use Rattle.vd_clight.specs.Whole as whole
use Rattle.vd_whole.proofs.whole.are_whole_functions.Given as goal

abbrev pub invariant-loop-f : goal.invariant-loop-f
invariant-loop-f l = list_all (whole.is_whole_function l.names.program.now) (take l.f-index l.names.program.now.fns) ≡ true
