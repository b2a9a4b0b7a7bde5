use Rattle.vd_meaning.specs.ResourceLaws.{OrderIsFree, PartsFit}
use Rattle.vd_meaning.proofs.Fitting.{parts_fit}
use Rattle.vd_meaning.proofs.Items.{order_is_free}
use Rattle.vd_meaning.proofs.laws.fitting_laws.Goals as goal

parts : PartsFit
parts = parts_fit

order : OrderIsFree
order = order_is_free

pub returns-clause-parts : goal.returns-clause-parts
returns-clause-parts c = parts

pub returns-clause-order : goal.returns-clause-order
returns-clause-order c = order
