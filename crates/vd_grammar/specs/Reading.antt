-- Reading by the kind of the next token: the function of lists that a recursive descent computes.
use Rattle.std.specs.Prelude.{ℕ, zero, suc, ◌+◌, ◌*◌, List, [], ◌∷◌, length, Option, Some, None, Ok, Err, if◌then◌else◌}
use Rattle.vd_grammar.specs.Grammar.{Symbol, word, part, Grammar, Values, kind_of}
use Rattle.vd_grammar.specs.Outcome.{Outcome, and_then}

module _ (G : Grammar) where
  -- a token of a class
  abbrev pub expect : G.Class → List G.Token → Outcome G.Token G.Token
  expect c [] = Err []
  expect c (t ∷ ts) = if G.has c (G.kind t) then Ok (t, ts) else Err (t ∷ ts)

  -- what each sort reads
  abbrev pub Reader : Type 0
  Reader = (S : G.Sort) → List G.Token → Outcome G.Token (G.Value S)

  -- the symbols one after another
  abbrev pub row : Reader → (ss : List (Symbol G.Class G.Sort)) → List G.Token → Outcome G.Token (Values G ss)
  row read [] ts = Ok (tt, ts)
  row read (word c ∷ ss) ts = and_then (expect c ts) (λ t us. and_then (row read ss us) (λ vs rest. Ok ((t, vs), rest)))
  row read (part S ∷ ss) ts = and_then (read S ts) (λ v us. and_then (row read ss us) (λ vs rest. Ok ((v, vs), rest)))

  -- a rule, if there is one
  abbrev pub by_choice : {S : G.Sort} → Reader → Option (G.Rule S) → List G.Token → Outcome G.Token (G.Value S)
  by_choice read None ts = Err ts
  by_choice read (Some rule) ts = and_then (row read (G.symbols rule) ts) (λ vs rest. Ok (G.make rule vs, rest))

  -- a sort, at most so many rules deep
  abbrev pub read_by : ℕ → Reader
  read_by zero S ts = Err ts
  read_by (suc n) S ts = by_choice (read_by n) (G.choose S (kind_of G ts)) ts

  -- A sort. The number is more than the depth of any reading.
  unfoldable pub read : Reader
  read S ts = read_by (suc (G.ranks * length ts + G.ranks)) S ts

  -- what the rule reads
  abbrev pub read_rule : {S : G.Sort} → G.Rule S → List G.Token → Outcome G.Token (G.Value S)
  read_rule rule ts = by_choice read (Some rule) ts
