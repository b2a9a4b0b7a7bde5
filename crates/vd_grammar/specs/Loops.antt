-- What loops over lists need.
use Rattle.std.proofs.Common.{◌≡◌, List, [], ◌∷◌, ◌++◌, Ok, Err, refl, ap, append_assoc}
use Rattle.std.proofs.lemmas.List.{append-nil}
use Rattle.vd_grammar.specs.Outcome.{Outcome, and_then, with_front}

pub with_front-nothing : {Token A : Type 0} (o : Outcome Token (List A)) → with_front [] o ≡ o
with_front-nothing (Ok p) = refl
with_front-nothing (Err rest) = refl

pub with_front-one : {Token A : Type 0} (front : List A) (x : A) (o : Outcome Token (List A)) → with_front (front ++ x ∷ []) o ≡ with_front front (and_then o (λ xs rest. Ok (x ∷ xs, rest)))
with_front-one front x (Ok p) = ap (λ xs. Ok (xs, p.1)) (append_assoc front (x ∷ []) p.0)
with_front-one front x (Err rest) = refl

pub ruleset fronts = (with_front-nothing, with_front-one, append-nil)
