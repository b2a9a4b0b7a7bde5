use Rattle.std.proofs.Common.{Some}
use Rattle.std.proofs.lemmas.Bool.Decides.{same_from_decides}
use Rattle.vd_heads.proofs.Meanings.{knows_seen}
use Rattle.vd_known.specs.Known.{is_met}
use Rattle.vd_known.proofs.known.knows.Goals as goal

pub returns : goal.returns
unfolding is_met
returns c =
    let v = c.args.view.now in
    same_from_decides c.knows.result (is_met v (Some (c.args.space, c.args.name.now))) c.knows.ensures (knows_seen v.parts.now v.own c.args.space c.args.name.now v.closure.items c.requires.closure)
