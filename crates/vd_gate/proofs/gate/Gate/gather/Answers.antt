use Rattle.std.proofs.Common.{rules}
use Rattle.vd_gate.proofs.Joining.{knows_all_of_own, knows_all_of_other}
use Rattle.vd_gate.proofs.gate.Gate.gather.Goals as goal

pub returns-then-pass-eq0-clause-known : goal.returns-then-pass-eq0-clause-known
returns-then-pass-eq0-clause-known g c = (
  knows_all_of_other c.args.pass c.args.main c.take_over.new.pass c.take_over.ensures.taken (λ _. search rules),
  knows_all_of_own c.args.pass c.args.main c.take_over.new.pass c.take_over.ensures.taken,
)

pub returns-else-pass-eq0-clause-known : goal.returns-else-pass-eq0-clause-known
returns-else-pass-eq0-clause-known g c = (
  knows_all_of_own c.args.main c.args.pass c.take_over-else-pass-eq0.new.pass c.take_over-else-pass-eq0.ensures.taken,
  knows_all_of_other c.args.main c.args.pass c.take_over-else-pass-eq0.new.pass c.take_over-else-pass-eq0.ensures.taken (λ z. absurd (search rules)),
)
