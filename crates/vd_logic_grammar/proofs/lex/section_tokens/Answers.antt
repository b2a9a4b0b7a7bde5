use Rattle.vd_logic_grammar.proofs.Fitting.{lexed_fit, lexed_fits, continued_fits}
use Rattle.vd_logic_grammar.proofs.lex.section_tokens.Goals as goal

pub returns-in-None-clause-fit : goal.returns-in-None-clause-fit
returns-in-None-clause-fit c = lexed_fits _ _ _ _ c.tokens_of.result c.tokens_of.ensures

pub returns-in-Unknown-clause-fit : goal.returns-in-Unknown-clause-fit
returns-in-Unknown-clause-fit c = lexed_fit _ _ _ _ _ _ c.in_ok-content-in-Some.ensures

pub returns-in-Text-clause-fit : goal.returns-in-Text-clause-fit
returns-in-Text-clause-fit c = continued_fits _ _ _ _ _ (lexed_fit _ _ _ _ _ _ c.in_ok-content-in-Some.ensures) c.with_end.result c.with_end.ensures
