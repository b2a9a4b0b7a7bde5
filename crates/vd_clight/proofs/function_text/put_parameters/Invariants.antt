use Rattle.std.proofs.Common.{◌≡◌, ◌++◌, ◌∷◌, codes, flat_map, map, take}
use Rattle.vd_clight.specs.Printed.{ended, field_words}
use Rattle.vd_clight.proofs.function_text.put_parameters.Given as goal

abbrev pub invariant-loop-parameter : goal.invariant-loop-parameter
invariant-loop-parameter l = l.line ≡ l.initial.line ++ ended (flat_map (λ y. codes "," ∷ y) (map field_words (take l.parameter-index l.others)))
