use Rattle.vd_logic_grammar.proofs.Cuts.{Kept}
use Rattle.vd_logic_grammar.proofs.lex.cut.Given as goal

abbrev pub invariant-tokens : goal.invariant-tokens
invariant-tokens l = Kept l.tokens l.found.items l.token-index l.depth
