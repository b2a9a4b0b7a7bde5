use Rattle.vd_clight.specs.declared.program.Signature.{Signature}
use Rattle.vd_judge.proofs.NameLaws.{numbers_more}
use Rattle.vd_ctyping.proofs.index.number_functions.Goals as goal

pub loop-number-preserved : goal.loop-number-preserved
loop-number-preserved c = numbers_more (λ (f : Signature). f.name) c.loop-number.table c.add_new.new.self c.args.functions.now c.loop-number.number c.index-functions-number.result c.as_bytes-name.result.now
    c.loop-number-test.true c.index-functions-number.is c.as_bytes-name.ensures.value c.loop-number.invariant c.in_ok-add_new.ensures
