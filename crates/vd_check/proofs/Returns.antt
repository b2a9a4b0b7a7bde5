-- What a return of a value does.
use Rattle.std.proofs.Common.{◌≡◌, Bool, true, false, ◌&&◌, if◌then◌else◌, [], Option, None, Some, option_map, ap, ◌∙◌}
use Rattle.vd_logic.specs.declared.assertion.Assertion.{Assertion}
use Rattle.vd_check.specs.declared.value.Evaluated.{Evaluated}
use Rattle.vd_check.specs.Value.{Value}
use Rattle.vd_check.specs.Evaluated.{evaluated}
use Rattle.vd_check.specs.Script.{Applied, Children, Refused, meets, return_with}

returned : Bool → Bool → Applied
returned proved met = if proved && met then Children [] else Refused 3

return_with-found : (post : Assertion) (v : Option Value) (found : Evaluated) → Some found ≡ option_map evaluated v → return_with post v ≡ returned found.proved (meets post found.number)
unfolding returned
return_with-found post None found e = cc
return_with-found post (Some v) found e = let same : evaluated v ≡ found = cc in ap (λ (w : Evaluated). if w.proved && meets post w.number then Children [] else Refused 3) same

pub return_with-met : (post : Assertion) (v : Option Value) (found : Evaluated) → Some found ≡ option_map evaluated v → found.proved ≡ true → meets post found.number ≡ true → return_with post v ≡ Children []
unfolding returned
return_with-met post v found e proved met = return_with-found post v found e ∙ (ap (λ b. returned b (meets post found.number)) proved ∙ ap (returned true) met)

pub return_with-unmet : (post : Assertion) (v : Option Value) (found : Evaluated) → Some found ≡ option_map evaluated v → found.proved ≡ true → meets post found.number ≡ false → return_with post v ≡ Refused 3
unfolding returned
return_with-unmet post v found e proved met = return_with-found post v found e ∙ (ap (λ b. returned b (meets post found.number)) proved ∙ ap (returned true) met)

pub return_with-unproved : (post : Assertion) (v : Option Value) (found : Evaluated) → Some found ≡ option_map evaluated v → found.proved ≡ false → return_with post v ≡ Refused 3
unfolding returned
return_with-unproved post v found e unproved = return_with-found post v found e ∙ ap (λ b. returned b (meets post found.number)) unproved
