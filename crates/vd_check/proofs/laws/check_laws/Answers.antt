use Rattle.vd_check.proofs.VerdictLaws.{one_verdict}
use Rattle.vd_check.proofs.OutcomeLaws.{one_outcome}
use Rattle.vd_check.proofs.laws.check_laws.Goals as goal

pub returns : goal.returns
returns c = record { verdict = one_verdict; outcome = one_outcome }
