-- What reading gives.
use Rattle.std.specs.Prelude.{List, ◌++◌, Result, Ok, Err}

-- A value with the tokens left, or the tokens from the one on that is refused.
abbrev pub Outcome : Type 0 → Type 0 → Type 0
Outcome Token A = Result (A × List Token) (List Token)

-- what is read next, given what was read
abbrev pub and_then : {Token A B : Type 0} → Outcome Token A → (A → List Token → Outcome Token B) → Outcome Token B
and_then (Ok p) f = f p.0 p.1
and_then (Err rest) f = Err rest

-- what is made of the value
abbrev pub then_make : {Token A B : Type 0} → Outcome Token A → (A → B) → Outcome Token B
then_make outcome f = and_then outcome (λ a rest. Ok (f a, rest))

-- the list that is read, behind a list
abbrev pub with_front : {Token A : Type 0} → List A → Outcome Token (List A) → Outcome Token (List A)
with_front front outcome = and_then outcome (λ xs rest. Ok (front ++ xs, rest))
