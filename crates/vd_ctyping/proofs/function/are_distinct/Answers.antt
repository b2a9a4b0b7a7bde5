use Rattle.std.proofs.Common.{sym, ◌∙◌}
use Rattle.vd_ctyping.proofs.DistinctNames.{own_name_again, known_name_again, so_far_more}
use Rattle.vd_ctyping.proofs.function.are_distinct.Goals as goal

pub returns-then-eq : goal.returns-then-eq
returns-then-eq c = sym (own_name_again c.loop-number.table c.loop-number.table c.args.function.now c.as_bytes-name.result.now c.args.names.now c.loop-number.number c.index-names-number.result
    c.loop-number-test.true c.index-names-number.is c.as_bytes-name.ensures.value c.loop-number.invariant (sym c.if-eq.ensures))

pub returns-then-not-branch : goal.returns-then-not-branch
returns-then-not-branch c = sym (known_name_again c.loop-number.table c.loop-number.table c.args.function.now c.as_bytes-name.result.now c.args.names.now c.loop-number.number c.index-names-number.result
    c.loop-number-test.true c.index-names-number.is c.as_bytes-name.ensures.value c.loop-number.invariant (sym c.in_ok-add.ensures.is_new ∙ c.if-not-branch.true))

pub loop-number-preserved : goal.loop-number-preserved
loop-number-preserved c = so_far_more c.loop-number.table c.add.new.self c.args.function.now c.as_bytes-name.result.now c.args.names.now c.loop-number.number c.index-names-number.result
    c.loop-number-test.true c.index-names-number.is c.as_bytes-name.ensures.value c.loop-number.invariant (sym c.if-eq.ensures) (sym c.in_ok-add.ensures.is_new ∙ c.if-not-branch.false) c.in_ok-add.ensures.numbers
