use Rattle.vd_reprint.proofs.Sections.{functions_are_shallow, sections_read_back}
use Rattle.vd_reprint.proofs.reprint.reprint_laws.Goals as goal

pub returns-clause-nested : goal.returns-clause-nested
returns-clause-nested c = functions_are_shallow

pub returns-clause-sections : goal.returns-clause-sections
returns-clause-sections c = sections_read_back
