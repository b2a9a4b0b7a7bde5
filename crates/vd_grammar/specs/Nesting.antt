-- How deeply tokens are nested: a fold over them, from the first on.
use Rattle.std.specs.Prelude.{ℕ, ◌<◌, ◌≡◌, List, [], ◌∷◌, ◌++◌}
use Rattle.vd_grammar.specs.Grammar.{Grammar}

-- A state behind each token, and how deep it is.
pub record Nesting (G : Grammar) : Type 1 where
  pub State : Type 0
  pub start : State
  pub after : G.Token → State → State
  pub depth : State → ℕ
  -- the least nesting that is too deep
  pub limit : ℕ
  pub start_below : depth start < limit

module _ (G : Grammar) (N : Nesting G) where
  -- the state behind tokens, from a state on
  abbrev pub state_from : N.State → List G.Token → N.State
  state_from state [] = state
  state_from state (t ∷ ts) = state_from (N.after t state) ts

  -- the state behind the tokens of a text
  abbrev pub state_of : List G.Token → N.State
  state_of ts = state_from N.start ts

  -- the nesting at the last of the tokens
  abbrev pub nesting : List G.Token → ℕ
  nesting ts = N.depth (state_of ts)

  -- No token is nested too deeply.
  pub record IsShallow (ts : List G.Token) : Type 0 where
    pub below : (front rest : List G.Token) → ts ≡ front ++ rest → nesting front < N.limit
