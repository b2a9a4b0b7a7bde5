use Rattle.std.proofs.Common.{rules, arith}
use Rattle.vd_logic.proofs.Counting.{term_nodes-App, term_nodes-Num, term_nodes-Var, term_nodes-Named, term_nodes-Global}
use Rattle.vd_logic.proofs.count.+nodes.Goals as goal

pub term_nodes-returns-in-App : goal.term_nodes-returns-in-App
term_nodes-returns-in-App t c = grind (arith, term_nodes-App)

pub term_nodes-returns-in-Num : goal.term_nodes-returns-in-Num
term_nodes-returns-in-Num t c = grind (arith, term_nodes-Num)

pub term_nodes-returns-in-Var : goal.term_nodes-returns-in-Var
term_nodes-returns-in-Var t c = grind (arith, term_nodes-Var)

pub term_nodes-returns-in-Named : goal.term_nodes-returns-in-Named
term_nodes-returns-in-Named t c = grind (arith, term_nodes-Named)

pub term_nodes-returns-in-Global : goal.term_nodes-returns-in-Global
term_nodes-returns-in-Global t c = grind (arith, term_nodes-Global)
