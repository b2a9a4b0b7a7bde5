use Rattle.vd_cgrammar.proofs.Shallowness.{printed_is_shallow}
use Rattle.vd_cgrammar.proofs.printing.shallow_laws.Goals as goal

pub returns : goal.returns
returns c = printed_is_shallow
