use Rattle.vd_cgrammar.proofs.FunctionsBack.{functions_read_back}
use Rattle.vd_cgrammar.proofs.printing.function_laws.Goals as goal

pub returns : goal.returns
returns c = functions_read_back
