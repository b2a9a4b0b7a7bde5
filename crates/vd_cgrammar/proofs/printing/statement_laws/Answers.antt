use Rattle.vd_cgrammar.proofs.StatementsBack.{statements_read_back}
use Rattle.vd_cgrammar.proofs.printing.statement_laws.Goals as goal

pub returns : goal.returns
returns c = statements_read_back
