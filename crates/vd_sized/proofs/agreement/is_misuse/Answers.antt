use Rattle.vd_heads.specs.Assertions.{item_labels}
use Rattle.vd_sized.specs.Agreement.{IsMisused}
use Rattle.vd_sized.proofs.Disagreeing.{any_one, any_none}
use Rattle.vd_sized.proofs.agreement.is_misuse.Goals as goal

pub returns-in-Some : goal.returns-in-Some
returns-in-Some c = any_one (IsMisused c.args.view.now.parts.now c.args.view.now.own) c.in-Some.label.now (item_labels c.args.item.now) c.is_misused.result c.in-Some.ensures c.is_misused.ensures

pub returns-in-None : goal.returns-in-None
returns-in-None c = any_none (IsMisused c.args.view.now.parts.now c.args.view.now.own) (item_labels c.args.item.now) c.in-None.ensures
