use Rattle.std.proofs.Common.{rules}
use Rattle.std.specs.List.{list_any}
use Rattle.std.specs.Str.{bytes_eq}
use Rattle.vd_known.specs.Known.{term_needs}
use Rattle.vd_known.specs.Names.{names_of}
use Rattle.vd_known.proofs.Needs.{stray_fails}
use Rattle.vd_known.proofs.known.knows_local.Goals as goal

pub returns-else-has : goal.returns-else-has
returns-else-has c = stray_fails c.args.view.now (list_any (bytes_eq c.args.local.now.0) (names_of c.args.names.now)) c.has.result (term_needs c.args.local.now.1) (search rules) (search rules)
