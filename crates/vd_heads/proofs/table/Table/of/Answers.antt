use Rattle.std.proofs.Common.{take, rules, arith}
use Rattle.std.proofs.lemmas.List.{length-take-le}
use Rattle.vd_heads.proofs.TableLaws.{part_next}
use Rattle.vd_heads.proofs.table.Table.of.Goals as goal

pub loop-number-preserved : goal.loop-number-preserved
loop-number-preserved c = part_next c.args.parts.now c.loop-number.number c.index-parts-number.result c.add_part.new.self c.loop-number-test.true (search rules)
    (c.in_ok-add_part.ensures (take c.loop-number.number c.args.parts.now) (length-take-le c.loop-number.number c.args.parts.now (omega arith)) c.loop-number.invariant)
