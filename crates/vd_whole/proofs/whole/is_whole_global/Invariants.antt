use Rattle.std.proofs.Common.{◌≡◌, true, take}
use Rattle.std.specs.List.{list_all}
use Rattle.vd_clight.specs.Whole as whole
use Rattle.vd_whole.proofs.whole.is_whole_global.Given as goal

abbrev pub invariant-loop-init : goal.invariant-loop-init
invariant-loop-init l = list_all (whole.is_whole_init l.names.program.now) (take l.init-index l.g.init) ≡ true
