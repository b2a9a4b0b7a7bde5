use Rattle.std.proofs.Common.{rules}
use Rattle.vd_heads.proofs.TableLaws.{spots_put}
use Rattle.vd_heads.proofs.table.Declarations.add.Goals as goal

pub returns-clause-spots : goal.returns-clause-spots
returns-clause-spots c = spots_put c.args.name.now c.as_bytes-name.result.now c.args.self.now.by_name c.remove.new.self c.if-len-eq1.self.by_name c.insert.new.self c.match-remove.spots c.push-2.new.self c.args.spot
    (search rules) (search rules) (search rules) c.remove.ensures.updates c.in_ok-insert.ensures.updates (search rules)
