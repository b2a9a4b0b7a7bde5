use Rattle.std.proofs.Common.{Option, ap, ◌∙◌}
use Rattle.vd_declared.specs.declared.owners.Owner.{Owner}
use Rattle.vd_declared.specs.Owners.{joined}
use Rattle.vd_declared.proofs.Named.{owner_put}
use Rattle.vd_declared.proofs.owners.Named.add.Goals as goal

pub returns : goal.returns
returns c = owner_put c.args.name.now c.args.self.now (record { by_name = c.insert.new.self }) c.joined-owner.result c.args.unit c.in_ok-insert.ensures.updates (c.joined-owner.ensures ∙ ap (λ (o : Option Owner). joined o c.args.unit) c.get.ensures)
