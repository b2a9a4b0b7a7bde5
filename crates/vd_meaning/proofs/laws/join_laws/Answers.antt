use Rattle.vd_meaning.specs.ResourceLaws.{JoinsAdd, JoinsFail}
use Rattle.vd_meaning.proofs.Joining.{joins_add, joins_fail}
use Rattle.vd_meaning.proofs.laws.join_laws.Goals as goal

added : JoinsAdd
added = joins_add

failed : JoinsFail
failed = joins_fail

pub returns-clause-added : goal.returns-clause-added
returns-clause-added c = added

pub returns-clause-failed : goal.returns-clause-failed
returns-clause-failed c = failed
