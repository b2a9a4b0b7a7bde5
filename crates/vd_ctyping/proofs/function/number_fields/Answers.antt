use Rattle.vd_base.specs.declared.ctype.Field.{Field}
use Rattle.vd_judge.proofs.NameLaws.{numbers_more}
use Rattle.vd_ctyping.proofs.function.number_fields.Goals as goal

pub loop-number-preserved : goal.loop-number-preserved
loop-number-preserved c = numbers_more (λ (f : Field). f.name) c.loop-number.table c.add_new.new.self c.args.fields.now c.loop-number.number c.index-fields-number.result c.as_bytes-name.result.now
    c.loop-number-test.true c.index-fields-number.is c.as_bytes-name.ensures.value c.loop-number.invariant c.in_ok-add_new.ensures
