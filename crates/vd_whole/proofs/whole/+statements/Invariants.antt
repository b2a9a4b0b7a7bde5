use Rattle.std.proofs.Common.{◌≡◌, true, take}
use Rattle.std.specs.List.{list_all}
use Rattle.vd_clight.specs.Whole as whole
use Rattle.vd_whole.proofs.whole.+statements.Given as goal

abbrev pub invariant-are_whole_statements-loop-s : goal.invariant-are_whole_statements-loop-s
invariant-are_whole_statements-loop-s l = list_all (whole.is_whole_statement l.names.program.now l.temps) (take l.s-index l.body) ≡ true
