-- What a function that reads ensures.
use Rattle.std.specs.Prelude.{◌≡◌, List, Result, Ok, Err}
use Rattle.vd_grammar.specs.declared.stop.Stop.{Stop}
use Rattle.vd_grammar.specs.declared.stop.Stop.TheVariants.{Refused, Memory}
use Rattle.vd_grammar.specs.Outcome.{Outcome}

-- The outcome is what the function gives, unless memory fails. The tokens are those that it leaves.
abbrev pub Reads : {Token A : Type 0} → Outcome Token A → Result A Stop → List Token → Type 0
Reads outcome (Ok a) left = outcome ≡ Ok (a, left)
Reads outcome (Err Refused) left = outcome ≡ Err left
Reads outcome (Err Memory) left = Unit {0}

-- The same where a clause sees the value of the code by a view.
abbrev pub ReadsBy : {Token A B : Type 0} → (A → B) → Outcome Token B → Result A Stop → List Token → Type 0
ReadsBy view outcome (Ok a) left = outcome ≡ Ok (view a, left)
ReadsBy view outcome (Err Refused) left = outcome ≡ Err left
ReadsBy view outcome (Err Memory) left = Unit {0}
