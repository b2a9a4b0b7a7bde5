-- The tokens of a text. What stands in front of it is the longest of what could stand there.
use Rattle.std.specs.Prelude.{ℕ, ◌+◌, ◌≡◌, ◌≢◌, ◌==◌, Bool, true, false, ◌||◌, ◌&&◌, List, [], ◌∷◌, ◌++◌, length}
use Rattle.vd_tokens.specs.declared.alphabet.Alphabet.{Alphabet}
use Rattle.vd_tokens.specs.declared.token.TokenKind.{TokenKind}
use Rattle.vd_tokens.specs.declared.token.TokenKind.TheVariants as kind
use Rattle.vd_tokens.specs.declared.token.End.{End}
use Rattle.vd_tokens.specs.declared.token.End.TheVariants as end
use Rattle.vd_tokens.specs.Bytes.{is_digit, is_letter, is_word_byte, is_blank, is_no_line_feed, AllBytes}
use Rattle.vd_tokens.specs.Signs.{is_single, is_pair, allows_suffix}
use Rattle.vd_tokens.specs.Lexeme.{Lexeme}

-- digits without a leading zero
abbrev pub IsDecimal : List ℕ → Type 0
IsDecimal [] = ⊥
IsDecimal (b ∷ []) = is_digit b ≡ true
IsDecimal (b ∷ c ∷ bs) = (is_digit b ≡ true) × (b ≢ 48) × AllBytes is_digit (c ∷ bs)

-- The bytes begin with `*/`.
abbrev pub starts_close : List ℕ → Bool
starts_close [] = false
starts_close (b ∷ []) = false
starts_close (b ∷ c ∷ bs) = b == 42 && c == 47

-- `*/` stands somewhere in the bytes.
abbrev pub has_close : List ℕ → Bool
has_close [] = false
has_close (b ∷ bs) = starts_close (b ∷ bs) || has_close bs

-- What can stand in front of a text.
pub data Shape : Type 0 where
  Token : TokenKind → Shape
  Gap : Shape
  -- `/*` with no `*/` behind it
  Unclosed : Shape

-- The bytes have the shape. A comment in stars ends at the first `*/`.
pub data IsElement (alphabet : Alphabet) : Shape → List ℕ → Type 0 where
  word : {b : ℕ} {bs : List ℕ} → is_letter b ≡ true → AllBytes is_word_byte bs → IsElement alphabet (Token kind.Word) (b ∷ bs)
  number : {ds : List ℕ} → IsDecimal ds → IsElement alphabet (Token kind.Number) ds
  suffixed : {bs : List ℕ} (ds : List ℕ) → allows_suffix alphabet ≡ true → bs ≡ ds ++ 117 ∷ [] → IsDecimal ds → IsElement alphabet (Token kind.Number) bs
  single : {b : ℕ} → is_single alphabet b ≡ true → IsElement alphabet (Token kind.Sign) (b ∷ [])
  pair : {b c : ℕ} → is_pair alphabet b c ≡ true → IsElement alphabet (Token kind.Sign) (b ∷ c ∷ [])
  blank : {b : ℕ} → is_blank b ≡ true → IsElement alphabet Gap (b ∷ [])
  line : {bs : List ℕ} → AllBytes is_no_line_feed bs → IsElement alphabet Gap (47 ∷ 47 ∷ bs)
  stars : {bs : List ℕ} (inner : List ℕ) → bs ≡ inner ++ 42 ∷ 47 ∷ [] → has_close (inner ++ 42 ∷ []) ≡ false → IsElement alphabet Gap (47 ∷ 42 ∷ bs)
  unclosed : {bs : List ℕ} → has_close bs ≡ false → IsElement alphabet Unclosed (47 ∷ 42 ∷ bs)

-- The front of a text has the shape, and no longer front has any.
pub record IsFirst (alphabet : Alphabet) (shape : Shape) (text front rest : List ℕ) : Type 0 where
  pub cut : text ≡ front ++ rest
  pub is : IsElement alphabet shape front
  pub longest : (other : Shape) (b : ℕ) (more others : List ℕ) → rest ≡ b ∷ (more ++ others) → IsElement alphabet other (front ++ b ∷ more) → ⊥

-- The tokens of a text that begins at a place, up to its end or to the first byte that begins none.
pub data Tokenizes (alphabet : Alphabet) : ℕ → List ℕ → List Lexeme → End → Type 0 where
  ends : {place : ℕ} → Tokenizes alphabet place [] [] (end.Text place)
  nothing_begins : {place b : ℕ} {bs : List ℕ} → ((shape : Shape) (front rest : List ℕ) → b ∷ bs ≡ front ++ rest → IsElement alphabet shape front → ⊥)
      → Tokenizes alphabet place (b ∷ bs) [] (end.Unknown place)
  nothing_closes : {place : ℕ} {text front rest : List ℕ} → IsFirst alphabet Unclosed text front rest → Tokenizes alphabet place text [] (end.Unknown place)
  behind_gap : {place : ℕ} {text front rest : List ℕ} {ts : List Lexeme} {last : End} → IsFirst alphabet Gap text front rest → Tokenizes alphabet (place + length front) rest ts last
      → Tokenizes alphabet place text ts last
  token : {place : ℕ} {text front rest : List ℕ} {kind : TokenKind} {ts : List Lexeme} {last : End} → IsFirst alphabet (Token kind) text front rest → Tokenizes alphabet (place + length front) rest ts last
      → Tokenizes alphabet place text (record { kind = kind; place = place; spelling = front } ∷ ts) last
