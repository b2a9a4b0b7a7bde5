use Rattle.std.proofs.Common.{◌≡◌, ◌++◌, flat_map, take}
use Rattle.vd_clight.specs.Printed.{ended, declaration_words}
use Rattle.vd_clight.proofs.function_text.put_declarations.Given as goal

abbrev pub invariant-loop-temporary : goal.invariant-loop-temporary
invariant-loop-temporary l = l.line ≡ l.initial.line ++ ended (flat_map declaration_words (take l.temporary-index l.temporaries))
