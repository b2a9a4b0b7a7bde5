use Rattle.std.proofs.Common.{sym, ◌∙◌, rules}
use Rattle.vd_known.proofs.ClashLaws.{clash_least, no_clash}
use Rattle.vd_known.proofs.twice.clash_place.Goals as goal

pub returns-then-has_clash : goal.returns-then-has_clash
returns-then-has_clash c = clash_least c.args.view.now c.args.space c.args.name.now c.spots-spots.result.now c.last_place.result c.requires c.spots-spots.ensures c.last_place.ensures (sym c.has_clash.ensures ∙ (search rules))

pub returns-else-has_clash : goal.returns-else-has_clash
returns-else-has_clash c = no_clash c.args.view.now c.args.space c.args.name.now c.spots-spots.result.now c.requires c.spots-spots.ensures (sym c.has_clash.ensures ∙ (search rules))
