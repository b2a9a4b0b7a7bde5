use Rattle.std.specs.Str.{bytes_eq}
use Rattle.vd_machine.proofs.Walks.{found_at}
use Rattle.vd_machine.proofs.statement.function.Goals as goal

pub returns-then-eq-clause-value : goal.returns-then-eq-clause-value
returns-then-eq-clause-value c =
    found_at (λ f. bytes_eq f.name c.args.name.now) c.args.fns.now c.loop-number.number c.index-fns-number.result c.loop-number-test.true c.index-fns-number.is
    c.if-eq.ensures c.loop-number.invariant
