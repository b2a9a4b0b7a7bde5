-- What a grammar owes so that the kind of the next token decides between its rules. All of it computes.
use Rattle.std.specs.Prelude.{ℕ, zero, suc, ◌≡◌, ◌==◌, nat_lt, Bool, true, false, ◌||◌, ◌&&◌, not, List, [], ◌∷◌, Option, Some, None}
use Rattle.vd_grammar.specs.Grammar.{Symbol, word, part, Grammar}

-- the item at an index
abbrev pub nth : {A : Type 0} → List A → ℕ → Option A
nth [] n = None
nth (x ∷ xs) zero = Some x
nth (x ∷ xs) (suc n) = nth xs n

-- every item passes
abbrev pub all : {A : Type 0} → (A → Bool) → List A → Bool
all p [] = true
all p (x ∷ xs) = p x && all p xs

-- the second test passes where the first does
abbrev pub implies : Bool → Bool → Bool
implies a b = not a || b

-- What is said of each sort.
pub record Tables (G : Grammar) : Type 0 where
  -- every kind, and the place of a kind among them
  pub kinds : List G.Kind
  pub kind_number : G.Kind → ℕ
  -- every rule of a sort, and the place of a rule among them
  pub rules : (S : G.Sort) → List (G.Rule S)
  pub rule_number : {S : G.Sort} → G.Rule S → ℕ
  -- whether no token may be what the sort says
  pub nullable : G.Sort → Bool
  -- the kinds of a first token, and of a token behind the last
  pub begins : G.Sort → G.Kind → Bool
  pub follows : G.Sort → G.Kind → Bool
  -- A sort at whose first token another is read has a higher rank.
  pub rank : G.Sort → ℕ
  -- a rule by which the sort is spelled with sorts of less height
  pub least : (S : G.Sort) → G.Rule S
  pub height : G.Sort → ℕ
  -- a token of the class
  pub sample : G.Class → G.Token

module _ (G : Grammar) (T : Tables G) where
  -- no token may be what the row says
  abbrev pub nullable_row : List (Symbol G.Class G.Sort) → Bool
  nullable_row [] = true
  nullable_row (word c ∷ ss) = false
  nullable_row (part S ∷ ss) = T.nullable S && nullable_row ss

  -- the kinds of a row's first token
  abbrev pub begins_row : List (Symbol G.Class G.Sort) → G.Kind → Bool
  begins_row [] kind = false
  begins_row (word c ∷ ss) kind = G.has c kind
  begins_row (part S ∷ ss) kind = T.begins S kind || (T.nullable S && begins_row ss kind)

  -- the kinds that may come where a row is read whose end is the end of a sort
  abbrev pub expects : G.Sort → List (Symbol G.Class G.Sort) → G.Kind → Bool
  expects S ss kind = begins_row ss kind || (nullable_row ss && T.follows S kind)

  -- what comes behind each part of the row may follow it
  abbrev pub follows_row : G.Sort → List (Symbol G.Class G.Sort) → Bool
  follows_row S [] = true
  follows_row S (word c ∷ ss) = follows_row S ss
  follows_row S (part U ∷ ss) = all (λ kind. implies (expects S ss kind) (T.follows U kind)) T.kinds && follows_row S ss

  -- what is read at the first token has a lower rank
  abbrev pub descends : ℕ → List (Symbol G.Class G.Sort) → Bool
  descends n [] = true
  descends n (word c ∷ ss) = true
  descends n (part S ∷ ss) = nat_lt (T.rank S) n && (not (T.nullable S) || descends n ss)

  -- every sort in the row has less height
  abbrev pub lower : ℕ → List (Symbol G.Class G.Sort) → Bool
  lower n [] = true
  lower n (word c ∷ ss) = lower n ss
  lower n (part S ∷ ss) = nat_lt (T.height S) n && lower n ss

  -- it is the rule
  abbrev pub is_rule : {S : G.Sort} → G.Rule S → Option (G.Rule S) → Bool
  is_rule r None = false
  is_rule r (Some q) = T.rule_number q == T.rule_number r

  -- The rule is taken at the kinds that begin it, no other is taken there, and what its parts ask for is so.
  abbrev pub is_sound : {S : G.Sort} → G.Rule S → Bool
  is_sound {S} r =
      all (λ kind. implies (begins_row (G.symbols r) kind) (T.begins S kind) && implies (expects S (G.symbols r) kind) (is_rule r (G.choose S kind))) T.kinds
      && (implies (nullable_row (G.symbols r)) (T.nullable S) && (follows_row S (G.symbols r) && descends (T.rank S) (G.symbols r)))

-- What a grammar owes. Each field is `refl` by cases.
pub record Laws (G : Grammar) : Type 0 where
  pub tables : Tables G
  pub kind_listed : (kind : G.Kind) → nth tables.kinds (tables.kind_number kind) ≡ Some kind
  pub rule_listed : {S : G.Sort} (r : G.Rule S) → nth (tables.rules S) (tables.rule_number r) ≡ Some r
  pub sound : {S : G.Sort} (r : G.Rule S) → is_sound G tables r ≡ true
  pub begins_end : (S : G.Sort) → tables.begins S G.end ≡ false
  pub rank_below : (S : G.Sort) → nat_lt (tables.rank S) G.ranks ≡ true
  pub lower_least : (S : G.Sort) → lower G tables (tables.height S) (G.symbols (tables.least S)) ≡ true
  pub has_sample : (c : G.Class) → G.has c (G.kind (tables.sample c)) ≡ true
