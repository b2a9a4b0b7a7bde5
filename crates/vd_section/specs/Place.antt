-- Where tokens begin and end.
use Rattle.std.specs.Prelude.{ℕ, ◌≡◌, Bool, true, false, List, [], ◌∷◌}
use Rattle.vd_tokens.specs.declared.alphabet.Alphabet.{Alphabet}
use Rattle.vd_tokens.specs.declared.token.End.{End}
use Rattle.vd_tokens.specs.declared.token.End.TheVariants as last
use Rattle.vd_tokens.specs.Lexeme.{Lexeme as Token}
use Rattle.vd_tokens.specs.Text.{Tokenizes}

-- the text ends there
abbrev pub is_text : End → Bool
is_text (last.Text place) = true
is_text (last.Unknown place) = false

abbrev pub place_of_end : End → ℕ
place_of_end (last.Text place) = place
place_of_end (last.Unknown place) = place

-- the place of the first token, or where there is none
abbrev pub place_of_first : List Token → End → ℕ
place_of_first [] end = place_of_end end
place_of_first (t ∷ ts) end = t.place

-- the place of the first token of bytes that begin at a place
pub record IsFirstPlace (alphabet : Alphabet) (place : ℕ) (bytes : List ℕ) (at : ℕ) : Type 0 where
  pub tokens : List Token
  pub end : End
  pub tokenized : Tokenizes alphabet place bytes tokens end
  pub place_is : at ≡ place_of_first tokens end
