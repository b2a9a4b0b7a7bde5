use Rattle.std.proofs.Common.{Some}
use Rattle.std.proofs.lemmas.Map.Text.{btree_map_updates_str}
use Rattle.vd_assertion_text.proofs.variables.Variables.add.Goals as goal

pub returns-clause-names : goal.returns-clause-names
returns-clause-names c = λ other. btree_map_updates_str c.args.name.now c.args.self.now.numbers c.insert.new.self (Some (c.args.self.now.count, c.args.sort)) c.in_ok-stood.ensures.updates other
