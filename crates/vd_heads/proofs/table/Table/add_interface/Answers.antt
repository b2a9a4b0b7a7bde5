use Rattle.std.proofs.Common.{sym, ◌∙◌, ap, rules}
use Rattle.std.specs.Option.{option_copied}
use Rattle.vd_heads.proofs.TableLaws.{interface_put}
use Rattle.vd_heads.proofs.table.Table.add_interface.Goals as goal

pub returns-in_ok-insert-clause-interfaces : goal.returns-in_ok-insert-clause-interfaces
returns-in_ok-insert-clause-interfaces c = interface_put c.args.self.now.interfaces c.insert.new.self c.args.part.now.head c.args.number c.in-Some.name.now c.as_bytes-name.result.now (search rules)
    (sym c.interface.ensures ∙ ap option_copied c.in-Some.is) (search rules) c.in_ok-insert.ensures.updates
