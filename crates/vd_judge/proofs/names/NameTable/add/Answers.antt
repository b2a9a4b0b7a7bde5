use Rattle.std.proofs.Common.{Some}
use Rattle.std.proofs.lemmas.Map.Text.{btree_map_updates_str}
use Rattle.vd_judge.proofs.names.NameTable.add.Goals as goal

pub returns-clause-numbers : goal.returns-clause-numbers
returns-clause-numbers c = λ other. btree_map_updates_str c.args.name.now c.args.self.now.numbers c.insert.new.self (Some c.args.to) c.in_ok-old.ensures.updates other
