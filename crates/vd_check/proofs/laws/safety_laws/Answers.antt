use Rattle.vd_check.proofs.Safety.{accepted_are_safe}
use Rattle.vd_check.proofs.Wholeness.{typed_is_whole}
use Rattle.vd_check.proofs.laws.safety_laws.Goals as goal

pub returns-clause-safe : goal.returns-clause-safe
returns-clause-safe c = accepted_are_safe

pub returns-clause-whole : goal.returns-clause-whole
returns-clause-whole c = typed_is_whole
