use Rattle.vd_cgrammar.proofs.Spacing.{spaced_are_tokens}
use Rattle.vd_cgrammar.proofs.Decimals.{number_is}
use Rattle.vd_cgrammar.proofs.printing.print_laws.Goals as goal

pub returns-clause-tokens : goal.returns-clause-tokens
returns-clause-tokens c = spaced_are_tokens

pub returns-clause-numbers : goal.returns-clause-numbers
returns-clause-numbers c = number_is
