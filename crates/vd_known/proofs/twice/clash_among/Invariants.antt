use Rattle.std.proofs.Common.{◌≡◌, false, take}
use Rattle.std.specs.List.{list_any}
use Rattle.vd_known.specs.Clash as clash
use Rattle.vd_known.proofs.twice.clash_among.Given as goal

abbrev pub invariant-loop-other : goal.invariant-loop-other
invariant-loop-other l = list_any (clash.clashes l.fn.view l.fn.first) (take l.other-index l.fn.others) ≡ false
