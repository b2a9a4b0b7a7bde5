use Rattle.vd_cparse.specs.Section.{IsFnSection}
use Rattle.vd_linkage.proofs.Readings.{there_is}
use Rattle.vd_linkage.proofs.reading.is_function.Goals as goal

pub returns : goal.returns
returns c = there_is (IsFnSection c.args.text.now) c.in_ok-function.function c.is_some.result c.in_ok-function.ensures c.is_some.ensures
