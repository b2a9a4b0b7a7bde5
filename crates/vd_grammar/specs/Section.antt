-- What the tokens of a text are as a section, and where they are at fault. The tokens stand up to the end of the text, or up to a byte that begins none.
use Rattle.std.specs.Prelude.{ℕ, ◌≤◌, ◌≡◌, Bool, true, false, [], ◌∷◌, ◌++◌, take, Result, Ok, Err}
use Rattle.vd_grammar.specs.declared.fault.ParseFault.{ParseFault}
use Rattle.vd_grammar.specs.declared.fault.ParseFault.TheVariants.{Bad, Deep, Memory}
use Rattle.vd_grammar.specs.declared.fault.Cause.{Cause}
use Rattle.vd_grammar.specs.declared.fault.Cause.TheVariants as cause
use Rattle.vd_grammar.specs.Grammar.{Grammar, Tokens, Is, Begins}
use Rattle.vd_grammar.specs.Nesting.{Nesting, nesting, IsShallow}

module _ (G : Grammar) (N : Nesting G) (place : G.Token → ℕ) where
  -- the place of the next token, or the one where the tokens end
  abbrev pub place_or : ℕ → Tokens G → ℕ
  place_or end [] = end
  place_or end (t ∷ ts) = place t

  -- What comes next cannot stand there: a token with which the tokens in front begin no section, a byte that begins no token, or the end of the text where they are none.
  abbrev pub CannotFollow : (S : G.Sort) → (is_text : Bool) → Tokens G → Tokens G → Type 0
  CannotFollow S is_text front (t ∷ rest) = Begins G S (front ++ t ∷ []) → ⊥
  CannotFollow S true front [] = (v : G.Value S) → Is G S front v → ⊥
  CannotFollow S false front [] = Unit {0}

  -- The tokens are the section, and the text ends with them.
  pub record IsSection (S : G.Sort) (ts : Tokens G) (is_text : Bool) (v : G.Value S) : Type 0 where
    pub is : Is G S ts v
    pub ends : is_text ≡ true
    pub shallow : IsShallow G N ts

  -- The tokens in front begin a section, and what comes next cannot stand there. No token up to it is nested too deeply.
  pub record IsBadAt (S : G.Sort) (ts : Tokens G) (is_text : Bool) (end at : ℕ) : Type 0 where
    pub front : Tokens G
    pub rest : Tokens G
    pub cut : ts ≡ front ++ rest
    pub begins : Begins G S front
    pub cannot : CannotFollow S is_text front rest
    pub shallow : IsShallow G N (front ++ take 1 rest)
    pub place_is : at ≡ place_or end rest

  -- The tokens in front begin a section, and the next one is the first that is nested too deeply.
  pub record IsDeepAt (S : G.Sort) (ts : Tokens G) (at : ℕ) : Type 0 where
    pub front : Tokens G
    pub next : G.Token
    pub rest : Tokens G
    pub cut : ts ≡ front ++ next ∷ rest
    pub begins : Begins G S front
    pub shallow : IsShallow G N front
    pub deep : N.limit ≤ nesting G N (front ++ next ∷ [])
    pub place_is : at ≡ place next

  -- What a reader answers, unless memory fails.
  abbrev pub Answers : (S : G.Sort) → Tokens G → Bool → ℕ → Result (G.Value S) ParseFault → Type 0
  Answers S ts is_text end (Ok v) = IsSection S ts is_text v
  Answers S ts is_text end (Err (Bad at)) = IsBadAt S ts is_text end at
  Answers S ts is_text end (Err (Deep at)) = IsDeepAt S ts at
  Answers S ts is_text end (Err Memory) = Unit {0}

  -- The tokens up to the first that is nested too deeply, or all, and why they end.
  pub data IsCut (ts : Tokens G) : Bool → ℕ → Tokens G → Cause → ℕ → Type 0 where
    whole_text : {end : ℕ} → IsShallow G N ts → IsCut ts true end ts cause.Text end
    at_unknown : {end : ℕ} → IsShallow G N ts → IsCut ts false end ts cause.Unknown end
    at_deep : {is_text : Bool} {end at : ℕ} {front : Tokens G} (next : G.Token) (rest : Tokens G) → ts ≡ front ++ next ∷ rest → IsShallow G N front → N.limit ≤ nesting G N (front ++ next ∷ []) → at ≡ place next
        → IsCut ts is_text end front cause.Deep at

  -- No token is left, and the text ends.
  abbrev pub is_whole : Tokens G → Cause → Bool
  is_whole [] cause.Text = true
  is_whole _ _ = false

  -- the fault at the next token, or where the tokens end at a place
  abbrev pub fault_at : Tokens G → Cause → ℕ → ParseFault
  fault_at (t ∷ rest) why at = Bad (place t)
  fault_at [] cause.Deep at = Deep at
  fault_at [] _ at = Bad at
