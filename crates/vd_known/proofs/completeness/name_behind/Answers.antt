use Rattle.std.proofs.Common.{rules}
use Rattle.vd_known.proofs.LineLaws.{other_word}
use Rattle.vd_known.proofs.completeness.name_behind.Goals as goal

pub returns-else-eq : goal.returns-else-eq
returns-else-eq c = other_word c.args.kind c.args.line.now c.in-Some.word.now c.in-Some.name.now (search rules) (search rules) (search rules)
