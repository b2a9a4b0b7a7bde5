use Rattle.std.proofs.Common.{◌≡◌, ◌++◌, ◌∷◌, codes, flat_map, map, take}
use Rattle.vd_clight.specs.Printed.{ended, expression_words}
use Rattle.vd_clight.proofs.function_text.put_arguments.Given as goal

abbrev pub invariant-loop-argument : goal.invariant-loop-argument
invariant-loop-argument l = l.line ≡ l.initial.line ++ ended (flat_map (λ y. codes "," ∷ y) (map expression_words (take l.argument-index l.others)))
