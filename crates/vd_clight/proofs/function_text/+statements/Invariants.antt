use Rattle.std.proofs.Common.{◌≡◌, ◌++◌, flat_map, take}
use Rattle.vd_clight.specs.Printed.{ended, statement_words}
use Rattle.vd_clight.proofs.function_text.+statements.Given as goal

abbrev pub invariant-put_statements-loop-statement : goal.invariant-put_statements-loop-statement
invariant-put_statements-loop-statement l = l.line ≡ l.initial.line ++ ended (flat_map statement_words (take l.statement-index l.body))
