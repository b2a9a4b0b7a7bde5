-- The signs of each kind of text.
use Rattle.std.specs.Prelude.{ℕ, ◌==◌, Bool, true, false, ◌&&◌, List, [], ◌∷◌, codes}
use Rattle.std.specs.List.{list_any}
use Rattle.vd_tokens.specs.declared.alphabet.Alphabet.{Alphabet}
use Rattle.vd_tokens.specs.declared.alphabet.Alphabet.TheVariants.{C, Declaration, Logic}

-- the signs of one byte
abbrev pub singles : Alphabet → List ℕ
singles C = codes "(){}[];,=<>+-*/%&|^!~."
singles Declaration = codes "{}[];,=-*&"
singles Logic = codes "(){}[];:,=<+-*"

-- the signs of two bytes
abbrev pub pairs : Alphabet → List (List ℕ)
pairs C = codes "==" ∷ codes "!=" ∷ codes "<=" ∷ codes ">=" ∷ codes "<<" ∷ codes ">>" ∷ codes "->" ∷ []
pairs Declaration = []
pairs Logic = codes "!=" ∷ codes "<=" ∷ []

-- whether a number may end with `u`
abbrev pub allows_suffix : Alphabet → Bool
allows_suffix C = true
allows_suffix Declaration = true
allows_suffix Logic = false

-- The byte is a sign.
abbrev pub is_single : Alphabet → ℕ → Bool
is_single alphabet b = list_any (λ x. x == b) (singles alphabet)

-- the bytes are those two
abbrev pub is_two : List ℕ → ℕ → ℕ → Bool
is_two (x ∷ y ∷ []) b c = x == b && y == c
is_two _ b c = false

-- The two bytes are a sign.
abbrev pub is_pair : Alphabet → ℕ → ℕ → Bool
is_pair alphabet b c = list_any (λ x. is_two x b c) (pairs alphabet)
