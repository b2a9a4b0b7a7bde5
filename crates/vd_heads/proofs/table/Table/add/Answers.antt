use Rattle.vd_heads.specs.declared.table.Space.TheVariants as space
use Rattle.vd_heads.proofs.TableLaws.{table_with}
use Rattle.vd_heads.proofs.table.Table.add.Goals as goal

pub returns-in-Struct-clause-declarations : goal.returns-in-Struct-clause-declarations
returns-in-Struct-clause-declarations c = λ places h. table_with space.Struct c.args.space c.in-Struct.is places c.args.self.now c.add.new.self c.args.name.now c.args.spot c.add.result h c.add.ensures.spots c.add.ensures.shared

pub returns-in-Global-clause-declarations : goal.returns-in-Global-clause-declarations
returns-in-Global-clause-declarations c = λ places h. table_with space.Global c.args.space c.in-Global.is places c.args.self.now c.add-in-Global.new.self c.args.name.now c.args.spot c.add-in-Global.result h c.add-in-Global.ensures.spots c.add-in-Global.ensures.shared

pub returns-in-Function-clause-declarations : goal.returns-in-Function-clause-declarations
returns-in-Function-clause-declarations c = λ places h. table_with space.Function c.args.space c.in-Function.is places c.args.self.now c.add-in-Function.new.self c.args.name.now c.args.spot c.add-in-Function.result h c.add-in-Function.ensures.spots c.add-in-Function.ensures.shared

pub returns-in-Predicate-clause-declarations : goal.returns-in-Predicate-clause-declarations
returns-in-Predicate-clause-declarations c = λ places h. table_with space.Predicate c.args.space c.in-Predicate.is places c.args.self.now c.add-in-Predicate.new.self c.args.name.now c.args.spot c.add-in-Predicate.result h c.add-in-Predicate.ensures.spots c.add-in-Predicate.ensures.shared
