-- Sections that list names, one or more with `,` between them.
use Rattle.std.specs.Prelude.{◌≡◌, ℕ, ◌+◌, Bool, true, false, ◌&&◌, if◌then◌else◌, List, [], ◌∷◌, ◌++◌, length, codes, Result, Ok, Err}
use Rattle.std.specs.Str.{bytes_eq}
use Rattle.vd_base.specs.Name.{is_name}
use Rattle.vd_outline.specs.Lines.{lacks}
use Rattle.vd_tokens.specs.declared.alphabet.Alphabet.TheVariants.{Declaration}
use Rattle.vd_tokens.specs.declared.token.End.{End}
use Rattle.vd_tokens.specs.declared.token.End.TheVariants as last
use Rattle.vd_tokens.specs.declared.token.TokenKind.{TokenKind}
use Rattle.vd_tokens.specs.declared.token.TokenKind.TheVariants as kind
use Rattle.vd_tokens.specs.Lexeme.{Lexeme}
use Rattle.vd_tokens.specs.Text.{Tokenizes}
use Rattle.vd_heads.specs.declared.content.Mention.{Mention}

abbrev pub is_word : TokenKind → Bool
is_word kind.Word = true
is_word _ = false

abbrev pub is_sign : TokenKind → Bool
is_sign kind.Sign = true
is_sign _ = false

-- a token that is a name
abbrev pub is_name_token : Lexeme → Bool
is_name_token t = is_word t.kind && is_name t.spelling

abbrev pub is_comma : Lexeme → Bool
is_comma t = is_sign t.kind && bytes_eq t.spelling (codes ",")

abbrev pub mention_of : Lexeme → Mention
mention_of t = record { name = t.spelling; place = t.place }

-- a name in front of others, or their fault
abbrev pub with_name : Mention → Result (List Mention) ℕ → Result (List Mention) ℕ
with_name m (Ok ms) = Ok (m ∷ ms)
with_name m (Err place) = Err place

-- names in front of others, or their fault
abbrev pub with_names : List Mention → Result (List Mention) ℕ → Result (List Mention) ℕ
with_names [] r = r
with_names (m ∷ ms) r = with_name m (with_names ms r)

-- where the tokens end, at the line `end` or at a byte that begins none
abbrev pub ending : Bool → End → Result (List Mention) ℕ
ending true (last.Text place) = Err place
ending false (last.Text place) = Ok []
ending _ (last.Unknown place) = Err place

-- The names that tokens list, or the place of the first token that cannot stand where it stands; the first argument says that a name has to come next.
abbrev pub listed : Bool → List Lexeme → End → Result (List Mention) ℕ
listed wants [] end = ending wants end
listed true (t ∷ ts) end = if is_name_token t then with_name (mention_of t) (listed false ts end) else Err t.place
listed false (t ∷ ts) end = if is_comma t then listed true ts end else Err t.place

-- The tokens of a content, whose first byte has this place, list these names, or are at fault at a place.
pub record IsContent (place : ℕ) (content : List ℕ) (answer : Result (List Mention) ℕ) : Type 0 where
  pub tokens : List Lexeme
  pub end : End
  pub tokenized : Tokenizes Declaration place content tokens end
  pub answer_is : answer ≡ listed true tokens end

-- A section is a header line, its content, and the line `end`.
pub record IsCut (text header content : List ℕ) : Type 0 where
  pub cut : text ≡ header ++ 10 ∷ (content ++ codes "end\n")
  pub one_line : lacks 10 header ≡ true

-- The section lists these names, with their places in it, or is at fault at a place. The line `end` counts as a token.
pub record IsListing (text : List ℕ) (answer : Result (List Mention) ℕ) : Type 0 where
  pub header : List ℕ
  pub content : List ℕ
  pub is_cut : IsCut text header content
  pub listed_is : IsContent (length header + 1) content answer
