use Rattle.vd_cgrammar.proofs.ReadingBack.{reads_back}
use Rattle.vd_cgrammar.proofs.PrintedSpells.{printed_spells}
use Rattle.vd_cgrammar.proofs.Spelled.{read_is_spelled, expressions_read_back}
use Rattle.vd_cgrammar.proofs.printing.precedence_laws.Goals as goal

pub returns-clause-printed : goal.returns-clause-printed
returns-clause-printed c = printed_spells

pub returns-clause-read : goal.returns-clause-read
returns-clause-read c = reads_back

pub returns-clause-spelled : goal.returns-clause-spelled
returns-clause-spelled c = read_is_spelled

pub returns-clause-back : goal.returns-clause-back
returns-clause-back c = expressions_read_back
