use Rattle.std.proofs.Common.{◌≡◌, true, take}
use Rattle.std.specs.List.{list_all}
use Rattle.vd_whole.specs.Names.{is_whole_part}
use Rattle.vd_whole.proofs.whole.+whole.Given as goal

abbrev pub invariant-is_whole_place-loop-part : goal.invariant-is_whole_place-loop-part
invariant-is_whole_place-loop-part l = list_all (is_whole_part l.names.program.now l.temps) (take l.part-index l.l.path) ≡ true
