use Rattle.std.proofs.Common.{ap, Err}
use Rattle.vd_form.proofs.Finding.{names_read, no_names}
use Rattle.vd_form.proofs.listing.read_names.Goals as goal

pub returns-in-Ok : goal.returns-in-Ok
returns-in-Ok c = names_read c.args.section.now c.in-Ok.mentions c.found.result c.in-Ok.ensures.names c.found.ensures

pub returns-in-Err-Bad : goal.returns-in-Err-Bad
returns-in-Err-Bad c = no_names c.args.section.now c.in-Err-Bad.field-0-0 (c.in-Err-Bad.ensures.at c.in-Err-Bad.field-0-0 (ap Err c.in-Err-Bad.field-0-is))
