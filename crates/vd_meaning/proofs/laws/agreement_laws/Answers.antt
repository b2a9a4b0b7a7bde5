use Rattle.vd_meaning.specs.MeaningLaws.{StatesAgree}
use Rattle.vd_meaning.proofs.Agreement.{states_agree}
use Rattle.vd_meaning.proofs.laws.agreement_laws.Goals as goal

states : StatesAgree
states = states_agree

pub returns-clause-states : goal.returns-clause-states
returns-clause-states c = states
