use Rattle.std.proofs.lemmas.Result.{on_ok_weaker}
use Rattle.vd_known.proofs.NameLaws.{found_more}
use Rattle.vd_known.proofs.names.Names.add.Goals as goal

pub returns-clause-set : goal.returns-clause-set
returns-clause-set c = on_ok_weaker c.push.result (λ e name. found_more name c.args.name c.args.self.now.found.keys c.insert.new.self.keys c.args.self.now.listed c.push.new.self c.in_ok-insert.ensures.keys e (c.requires name)) c.push.ensures.ok
