use Rattle.std.proofs.Common.{option_copied}
use Rattle.vd_scopes.proofs.Refusing.{accepted_unambiguous}
use Rattle.vd_scopes.proofs.verdict.judged.Goals as goal

pub scopes_of-requires-clause-one : goal.scopes_of-requires-clause-one
scopes_of-requires-clause-one c = accepted_unambiguous c.in_ok-own.own.parts.now (option_copied c.args.lines) c.in_ok-place.field-0 c.in_ok-place.ensures c.in-None.is
