use Rattle.std.proofs.Common.{rules}
use Rattle.vd_logic.proofs.Substituting.{substituted-Num, substituted-Var, substituted-Named, substituted-Global, substituted-App}
use Rattle.vd_logic.proofs.substitution.+substitute.Goals as goal

pub in_term-returns-in-Num : goal.in_term-returns-in-Num
in_term-returns-in-Num t c = search (rules, substituted-Num)

pub in_term-returns-in-Var : goal.in_term-returns-in-Var
in_term-returns-in-Var t c = search (rules, substituted-Var)

pub in_term-returns-in_ok-copy-in-Named : goal.in_term-returns-in_ok-copy-in-Named
in_term-returns-in_ok-copy-in-Named t c = search (rules, substituted-Named)

pub in_term-returns-in_ok-copy-in-Global : goal.in_term-returns-in_ok-copy-in-Global
in_term-returns-in_ok-copy-in-Global t c = search (rules, substituted-Global)

pub in_term-returns-in_ok-args-in-App : goal.in_term-returns-in_ok-args-in-App
in_term-returns-in_ok-args-in-App t c = search (rules, substituted-App)
