-- A grammar as a table of rules, and what its sorts say. It is a relation on whole lists of tokens, so it knows nothing of how a text is read.
use Rattle.std.specs.Prelude.{ℕ, ◌≡◌, Bool, true, List, [], ◌∷◌, ◌++◌, Option}

-- `word` is a token of a class, and `part` is what a sort says.
pub data Symbol (Class Sort : Type 0) : Type 0 where
  word : Class → Symbol Class Sort
  part : Sort → Symbol Class Sort

-- the syntax of a row of symbols: a token for each word, and what each part says
abbrev pub Row : (Class Sort Token : Type 0) → (Sort → Type 0) → List (Symbol Class Sort) → Type 0
Row Class Sort Token Value [] = Unit {0}
Row Class Sort Token Value (word c ∷ ss) = Token × Row Class Sort Token Value ss
Row Class Sort Token Value (part S ∷ ss) = Value S × Row Class Sort Token Value ss

-- The rules of a language, with the rule that each sort takes at each kind of token.
pub record Grammar : Type 1 where
  pub Kind : Type 0
  pub Class : Type 0
  pub Sort : Type 0
  pub Token : Type 0
  -- the syntax of a sort
  pub Value : Sort → Type 0
  pub Rule : Sort → Type 0
  -- the kind where no token comes
  pub end : Kind
  pub kind : Token → Kind
  -- whether a class has a kind
  pub has : Class → Kind → Bool
  -- the right side of a rule
  pub symbols : {S : Sort} → Rule S → List (Symbol Class Sort)
  -- the syntax of a rule, given that of its symbols
  pub make : {S : Sort} → (r : Rule S) → Row Class Sort Token Value (symbols r) → Value S
  -- the rule by which a sort is read
  pub choose : (S : Sort) → Kind → Option (Rule S)
  -- more than the rank of each sort
  pub ranks : ℕ

module _ (G : Grammar) where
  -- the kind of the next token
  abbrev pub kind_of : List G.Token → G.Kind
  kind_of [] = G.end
  kind_of (t ∷ ts) = G.kind t

  -- the right side of a rule
  abbrev pub Symbols : Type 0
  Symbols = List (Symbol G.Class G.Sort)

  -- a text as its tokens
  abbrev pub Tokens : Type 0
  Tokens = List G.Token

  -- the syntax of a right side
  abbrev pub Values : List (Symbol G.Class G.Sort) → Type 0
  Values ss = Row G.Class G.Sort G.Token G.Value ss

  mutual
    -- The tokens are spelled as the symbols say, and this is their syntax.
    pub data Matches : (ss : List (Symbol G.Class G.Sort)) → List G.Token → Row G.Class G.Sort G.Token G.Value ss → Type 0 where
      nothing : Matches [] [] tt
      token_then : {c : G.Class} {ss : List (Symbol G.Class G.Sort)} {t : G.Token} {ts : List G.Token} {vs : Row G.Class G.Sort G.Token G.Value ss}
          → G.has c (G.kind t) ≡ true → Matches ss ts vs → Matches (word c ∷ ss) (t ∷ ts) (t, vs)
      part_then : {S : G.Sort} {ss : List (Symbol G.Class G.Sort)} {xs ys ts : List G.Token} {v : G.Value S} {vs : Row G.Class G.Sort G.Token G.Value ss}
          → ts ≡ xs ++ ys → Is S xs v → Matches ss ys vs → Matches (part S ∷ ss) ts (v, vs)

    -- The tokens are what the sort says, and this is their syntax.
    pub data Is : (S : G.Sort) → List G.Token → G.Value S → Type 0 where
      by_rule : {S : G.Sort} (r : G.Rule S) {ts : List G.Token} {vs : Row G.Class G.Sort G.Token G.Value (G.symbols r)} {v : G.Value S}
          → v ≡ G.make r vs → Matches (G.symbols r) ts vs → Is S ts v

  -- The tokens are the front of a phrase of the sort.
  pub record Begins (S : G.Sort) (front : List G.Token) : Type 0 where
    pub more : List G.Token
    pub value : G.Value S
    pub whole : Is S (front ++ more) value
