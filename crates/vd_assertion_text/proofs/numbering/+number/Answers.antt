use Rattle.std.proofs.Common.{rules}
use Rattle.vd_assertion_text.proofs.Naming.{numbered-Num, numbered-Var, numbered-Named, numbered-Global, numbered-App}
use Rattle.vd_assertion_text.proofs.numbering.+number.Goals as goal

pub in_term-returns-in-Num : goal.in_term-returns-in-Num
in_term-returns-in-Num t c = search (rules, numbered-Num)

pub in_term-returns-in-Var : goal.in_term-returns-in-Var
in_term-returns-in-Var t c = search (rules, numbered-Var)

pub in_term-returns-in-Named : goal.in_term-returns-in-Named
in_term-returns-in-Named t c = search (rules, numbered-Named)

pub in_term-returns-in_ok-copy-in-Global : goal.in_term-returns-in_ok-copy-in-Global
in_term-returns-in_ok-copy-in-Global t c = search (rules, numbered-Global)

pub in_term-returns-in_ok-args-in-App : goal.in_term-returns-in_ok-args-in-App
in_term-returns-in_ok-args-in-App t c = search (rules, numbered-App)
