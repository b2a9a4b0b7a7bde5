use Rattle.std.proofs.Common.{rules, codes}
use Rattle.vd_clight.specs.Printed.{braces, else_braces}
use Rattle.vd_clight.proofs.Joining.{three_parts}
use Rattle.vd_clight.proofs.StatementText.{condition_words, skip_is, assign_is, call_is, if_is, while_is, break_is, continue_is, return_is}
use Rattle.vd_clight.proofs.function_text.+statements.Goals as goal

pub put_statement-returns-in-Skip : goal.put_statement-returns-in-Skip
put_statement-returns-in-Skip t c = rw (skip_is c.args.statement.now c.in-Skip.is) (search rules)

pub put_statement-returns-in-Assign : goal.put_statement-returns-in-Assign
put_statement-returns-in-Assign t c = rw (assign_is c.args.statement.now c.in-Assign.place c.in-Assign.e c.in-Assign.is) (search rules)

pub put_statement-returns-in-Call : goal.put_statement-returns-in-Call
put_statement-returns-in-Call t c = rw (call_is c.args.statement.now c.in-Call.target c.in-Call.function c.in-Call.arguments c.in-Call.is) (search rules)

pub put_statement-returns-in_ok-put_else-in-If : goal.put_statement-returns-in_ok-put_else-in-If
put_statement-returns-in_ok-put_else-in-If t c = rw (if_is c.args.statement.now c.in-If.e c.in-If.then c.in-If.other c.in-If.is)
    (three_parts c.args.line.now c.put_condition.new.line c.put_block.new.line c.put_else.new.line
    (condition_words (codes "if") c.in-If.e) (braces c.in-If.then) (else_braces c.in-If.other) (search rules) (search rules) (search rules))

pub put_statement-returns-in-While : goal.put_statement-returns-in-While
put_statement-returns-in-While t c = rw (while_is c.args.statement.now c.in-While.e c.in-While.body c.in-While.is) (search rules)

pub put_statement-returns-in-Break : goal.put_statement-returns-in-Break
put_statement-returns-in-Break t c = rw (break_is c.args.statement.now c.in-Break.is) (search rules)

pub put_statement-returns-in-Continue : goal.put_statement-returns-in-Continue
put_statement-returns-in-Continue t c = rw (continue_is c.args.statement.now c.in-Continue.is) (search rules)

pub put_statement-returns-in-Return : goal.put_statement-returns-in-Return
put_statement-returns-in-Return t c = rw (return_is c.args.statement.now c.in-Return.value c.in-Return.is) (search rules)
