-- How many turns entries have.
use Rattle.std.proofs.Common.{◌≡◌, ℕ, ◌+◌, ◌<◌, ◌≤◌, Bool, true, false, List, ◌∷◌, length, nat_le, refl, ap, ◌∙◌, arith}
use Rattle.std.proofs.lemmas.List.{length-replicate, length-append}
use Rattle.std.proofs.lemmas.Bool.{leb-true, le-leb, lt-leb}
use Rattle.vd_schedule.specs.declared.entry.Entry.{Entry}
use Rattle.vd_schedule.specs.Schedule.{turns_in, turns_of}

-- those of the first entry and of the others
pub length-turns_of : (e : Entry) (es : List Entry) → length (turns_of (e ∷ es)) ≡ e.count + length (turns_of es)
length-turns_of e es = length-append (turns_in e) (turns_of es) ∙ ap (λ n. n + length (turns_of es)) (length-replicate e.count _)

tests_same : (a b n m : ℕ) → (a ≤ b → n ≤ m) → (n ≤ m → a ≤ b) → (t u : Bool) → nat_le a b ≡ t → nat_le n m ≡ u → t ≡ u
tests_same a b n m f g true true p q = refl
tests_same a b n m f g false false p q = refl
tests_same a b n m f g true false p q = let le : n ≤ m = f (leb-true a b p) in let yes : nat_le n m ≡ true = le-leb n m le in cc
tests_same a b n m f g false true p q = let le : a ≤ b = g (leb-true n m q) in let yes : nat_le a b ≡ true = le-leb a b le in cc

-- an entry whose turns are within takes them from the limit
pub within_more : (e : Entry) (es : List Entry) (limit less : ℕ) → limit ≡ less + e.count → nat_le (length (turns_of es)) less ≡ nat_le (length (turns_of (e ∷ es))) limit
within_more e es limit less is =
    let sum = length-turns_of e es in
    tests_same (length (turns_of es)) less (length (turns_of (e ∷ es))) limit (λ le. omega arith) (λ le. omega arith) _ _ refl refl

-- an entry with more turns than the limit passes it
pub beyond_more : (e : Entry) (es : List Entry) (limit : ℕ) → limit < e.count → nat_le (length (turns_of (e ∷ es))) limit ≡ false
beyond_more e es limit less = let sum = length-turns_of e es in lt-leb (length (turns_of (e ∷ es))) limit (omega arith)
