use Rattle.vd_cgrammar.proofs.SectionWords.{have_vocabularies}
use Rattle.vd_cgrammar.proofs.printing.vocabulary_laws.Goals as goal

pub returns : goal.returns
returns c = have_vocabularies
