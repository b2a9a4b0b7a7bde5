use Rattle.vd_singles.proofs.Tables.{table_put}
use Rattle.vd_singles.proofs.table.Table.add.Goals as goal

pub returns : goal.returns
returns c = λ pairs is. table_put c.args.self.now (record { numbers = c.insert.new.self }) pairs c.args.name.now c.args.number c.told_more-told.result c.told_more-told.ensures c.in_ok-insert.ensures.updates is
