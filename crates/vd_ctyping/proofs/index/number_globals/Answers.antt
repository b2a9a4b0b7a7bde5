use Rattle.std.proofs.Common.{ℕ, List}
use Rattle.vd_base.specs.declared.ctype.CType.{CType}
use Rattle.vd_judge.proofs.NameLaws.{numbers_more}
use Rattle.vd_ctyping.proofs.index.number_globals.Goals as goal

pub loop-number-preserved : goal.loop-number-preserved
loop-number-preserved c = numbers_more (λ (g : List ℕ × CType). g.0) c.loop-number.table c.add_new.new.self c.args.globals.now c.loop-number.number c.index-globals-number.result c.as_bytes-name.result.now
    c.loop-number-test.true c.index-globals-number.is c.as_bytes-name.ensures.value c.loop-number.invariant c.in_ok-add_new.ensures
