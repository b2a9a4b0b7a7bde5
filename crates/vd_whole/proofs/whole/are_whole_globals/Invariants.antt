use Rattle.std.proofs.Common.{◌≡◌, true, take}
use Rattle.std.specs.List.{list_all}
use Rattle.vd_clight.specs.Whole as whole
use Rattle.vd_whole.proofs.whole.are_whole_globals.Given as goal

abbrev pub invariant-loop-g : goal.invariant-loop-g
invariant-loop-g l = list_all (whole.is_whole_global l.names.program.now) (take l.g-index l.names.program.now.globals) ≡ true
