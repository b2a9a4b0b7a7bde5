-- What the functions that look at the front of a text ensure.
use Rattle.std.specs.Prelude.{ℕ, ◌+◌, ◌≤◌, ◌≡◌, ◌≢◌, ◌==◌, ◌⊎◌, ◌&&◌, Bool, true, false, List, [], ◌∷◌, ◌++◌, take, drop}
use Rattle.vd_tokens.specs.declared.alphabet.Alphabet.{Alphabet}
use Rattle.vd_tokens.specs.declared.element.Element.{Element}
use Rattle.vd_tokens.specs.declared.element.Element.TheVariants as element
use Rattle.vd_tokens.specs.declared.run.Run.{Run}
use Rattle.vd_tokens.specs.declared.run.Run.TheVariants as run
use Rattle.vd_tokens.specs.Bytes.{is_digit, is_letter, is_word_byte, is_blank, is_no_line_feed, AllBytes}
use Rattle.vd_tokens.specs.Signs.{is_pair, allows_suffix}
use Rattle.vd_tokens.specs.Text.{Shape, Token, Gap, Unclosed, IsElement, IsFirst, has_close}

-- which bytes a run is made of
abbrev pub passes : Run → ℕ → Bool
passes run.Word = is_word_byte
passes run.Digits = is_digit
passes run.Line = is_no_line_feed

-- The bytes begin with none that passes.
abbrev pub StopsAt : (ℕ → Bool) → List ℕ → Type 0
StopsAt p [] = Unit {0}
StopsAt p (b ∷ bs) = p b ≡ false

-- The bytes begin with the one.
abbrev pub starts_with : ℕ → List ℕ → Bool
starts_with b [] = false
starts_with b (c ∷ bs) = c == b

-- The first byte and the next are a sign.
abbrev pub begins_pair : Alphabet → ℕ → List ℕ → Bool
begins_pair alphabet b [] = false
begins_pair alphabet b (c ∷ bs) = is_pair alphabet b c

-- The suffix of a number is what comes next.
abbrev pub begins_suffix : Alphabet → List ℕ → Bool
begins_suffix alphabet bs = allows_suffix alphabet && starts_with 117 bs

-- The first `*/` stands there.
pub record ClosesAt (bs : List ℕ) (n : ℕ) : Type 0 where
  pub cut : bs ≡ take n bs ++ 42 ∷ 47 ∷ drop (n + 2) bs
  pub first : has_close (take n bs ++ 42 ∷ []) ≡ false

-- the first digit and the others, where the digits of a number end
pub record Digits (b n : ℕ) (bs : List ℕ) : Type 0 where
  pub first : is_digit b ≡ true
  pub shape : (((b == 48) ≡ true) × (n ≡ 0)) ⊎ (((b == 48) ≡ false) × AllBytes is_digit (take n bs) × StopsAt is_digit (drop n bs))

-- a byte that is no letter, no digit, no blank and no slash
pub record IsOther (b : ℕ) : Type 0 where
  pub letter : is_letter b ≡ false
  pub digit : is_digit b ≡ false
  pub blank : is_blank b ≡ false
  pub slash : b ≢ 47

-- nothing has a shape, or a comment that is not closed is what is longest
pub data BeginsNone (alphabet : Alphabet) (text : List ℕ) : Type 0 where
  nothing : ((shape : Shape) (front rest : List ℕ) → text ≡ front ++ rest → IsElement alphabet shape front → ⊥) → BeginsNone alphabet text
  open_comment : (front rest : List ℕ) → IsFirst alphabet Unclosed text front rest → BeginsNone alphabet text

-- What stands in front of a text, given its first byte and the others. A count is of the bytes behind the first.
abbrev pub IsHead : Alphabet → ℕ → List ℕ → Element → Type 0
IsHead alphabet b bs (element.Gap n) = IsFirst alphabet Gap (b ∷ bs) (b ∷ take n bs) (drop n bs)
IsHead alphabet b bs (element.Token kind n) = IsFirst alphabet (Token kind) (b ∷ bs) (b ∷ take n bs) (drop n bs)
IsHead alphabet b bs element.Unknown = BeginsNone alphabet (b ∷ bs)

-- The element is not longer than the text.
abbrev pub IsWithin : Element → ℕ → Type 0
IsWithin (element.Gap n) len = n ≤ len
IsWithin (element.Token kind n) len = n ≤ len
IsWithin element.Unknown len = Unit {0}
