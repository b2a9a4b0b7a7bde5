use Rattle.vd_schedule.proofs.Lines.{no_entry}
use Rattle.vd_schedule.proofs.reading.cut_entry.Goals as goal

pub returns-in-None-entry_of : goal.returns-in-None-entry_of
returns-in-None-entry_of c = no_entry c.args.bytes.now c.in-Some.line.now c.in-Some.after.now c.in-Some.ensures.0 c.in-Some.ensures.1 c.in-None-entry_of.ensures
