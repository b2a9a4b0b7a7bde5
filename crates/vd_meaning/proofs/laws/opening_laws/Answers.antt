use Rattle.vd_meaning.specs.MeaningLaws.{OpenedTerms, SubstitutedTerms, ValuationsOpen}
use Rattle.vd_meaning.proofs.Opening.{opened_terms, substituted_terms}
use Rattle.vd_meaning.proofs.Valuations.{valuations_open}
use Rattle.vd_meaning.proofs.laws.opening_laws.Goals as goal

valuations : ValuationsOpen
valuations = valuations_open

substituted : SubstitutedTerms
substituted = substituted_terms

opened : OpenedTerms
opened = opened_terms

pub returns-clause-valuations : goal.returns-clause-valuations
returns-clause-valuations c = valuations

pub returns-clause-substituted : goal.returns-clause-substituted
returns-clause-substituted c = substituted

pub returns-clause-terms : goal.returns-clause-terms
returns-clause-terms c = opened
