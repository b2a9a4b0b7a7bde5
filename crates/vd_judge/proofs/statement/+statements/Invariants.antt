use Rattle.std.proofs.Common.{◌≡◌, drop, map}
use Rattle.vd_judge.specs.Checked.{gathered}
use Rattle.vd_judge.specs.CheckedStatement.{block, typed_statement}
use Rattle.vd_judge.proofs.statement.+statements.Given as goal

-- what is typed, then the rest, is the whole
abbrev pub invariant-type_block-loop-s : goal.invariant-type_block-loop-s
invariant-type_block-loop-s l = gathered l.all (map (typed_statement l.scope) (drop l.s-index l.body)) ≡ block (map (typed_statement l.scope) l.body)
