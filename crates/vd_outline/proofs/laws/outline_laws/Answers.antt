use Rattle.vd_outline.proofs.HeaderLaws.{header_line_unique}
use Rattle.vd_outline.proofs.TextLaws.{one_head, one_outline, one_fault, has_head, no_outline}
use Rattle.vd_outline.proofs.laws.outline_laws.Goals as goal

pub returns-clause-head : goal.returns-clause-head
returns-clause-head c = one_head

pub returns-clause-header : goal.returns-clause-header
returns-clause-header c = header_line_unique

pub returns-clause-outline : goal.returns-clause-outline
returns-clause-outline c = one_outline

pub returns-clause-fault : goal.returns-clause-fault
returns-clause-fault c = one_fault

pub returns-clause-fault_has_head : goal.returns-clause-fault_has_head
returns-clause-fault_has_head c = has_head

pub returns-clause-fault_has_no_outline : goal.returns-clause-fault_has_no_outline
returns-clause-fault_has_no_outline c = no_outline
