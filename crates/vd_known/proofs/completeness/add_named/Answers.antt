use Rattle.std.proofs.Common.{rules}
use Rattle.std.proofs.lemmas.Result.{on_ok_weaker}
use Rattle.vd_known.proofs.LineLaws.{names_more}
use Rattle.vd_known.proofs.completeness.add_named.Goals as goal

pub returns-in-Some-clause-names : goal.returns-in-Some-clause-names
returns-in-Some-clause-names c = on_ok_weaker c.add.result (names_more c.args.kind c.args.line.now c.in-Some.name.now c.args.names.now c.add.new.self (search rules)) c.add.ensures.names
