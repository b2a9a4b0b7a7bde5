-- What tokens are as a whole, and where they are at fault.
use Rattle.std.specs.Prelude.{◌≡◌, Bool, true, false, List, [], ◌∷◌, ◌++◌, Result, Ok, Err}
use Rattle.vd_grammar.specs.Outcome.{Outcome}
use Rattle.vd_grammar.specs.Grammar.{Grammar, Tokens, Is, Begins}
use Rattle.vd_grammar.specs.Reading.{read}

-- no item is left
abbrev pub is_empty : {A : Type 0} → List A → Bool
is_empty [] = true
is_empty (x ∷ xs) = false

-- a value where no token is left, or the tokens that are left
abbrev pub none_left : {Token A : Type 0} → A → List Token → Result A (List Token)
none_left v [] = Ok v
none_left v (t ∷ ts) = Err (t ∷ ts)

-- what is read, if it is all
abbrev pub all_read : {Token A : Type 0} → Outcome Token A → Result A (List Token)
all_read (Ok p) = none_left p.0 p.1
all_read (Err rest) = Err rest

module _ (G : Grammar) where
  -- What all the tokens are, or the tokens from the first one on that cannot stand there.
  abbrev pub whole : (S : G.Sort) → Tokens G → Result (G.Value S) (Tokens G)
  whole S ts = all_read (read G S ts)

  -- The tokens in front are what the sort says.
  pub record HasFront (S : G.Sort) (ts : Tokens G) (v : G.Value S) (rest : Tokens G) : Type 0 where
    pub front : Tokens G
    pub cut : ts ≡ front ++ rest
    pub is : Is G S front v

  -- What comes next cannot stand there: with it the tokens in front begin no phrase of the sort. Where none comes they are no phrase.
  abbrev pub IsRefused : (S : G.Sort) → Tokens G → Tokens G → Type 0
  IsRefused S front [] = (v : G.Value S) → Is G S front v → ⊥
  IsRefused S front (t ∷ ts) = Begins G S (front ++ t ∷ []) → ⊥

  -- The tokens in front begin a phrase of the sort, and what comes next cannot stand there.
  pub record Refuses (S : G.Sort) (ts rest : Tokens G) : Type 0 where
    pub front : Tokens G
    pub cut : ts ≡ front ++ rest
    pub begins : Begins G S front
    pub refused : IsRefused S front rest
