-- The header line of a section.
use Rattle.std.specs.Prelude.{ℕ, ◌+◌, ◌==◌, Bool, false, List, [], ◌∷◌, length, drop, take_while, if◌then◌else◌}
use Rattle.std.specs.Str.{bytes_eq}
use Rattle.vd_base.specs.Name.{is_word_byte}

-- What stands in front of a text: a header line with this name, which ends at a place with the content behind it; or so many bytes that a header line may begin with, and what stands behind them.
pub data HeaderCut : Type 0 where
  found : List ℕ → ℕ → List ℕ → HeaderCut
  missing : ℕ → List ℕ → HeaderCut

-- the letters, digits and `_` in front
abbrev pub word_of : List ℕ → List ℕ
word_of bs = take_while is_word_byte bs

-- the first byte is this one
abbrev pub begins_with : ℕ → List ℕ → Bool
begins_with b [] = false
begins_with b (x ∷ xs) = x == b

-- the word that stands where a header line has its name: behind the first word and one byte more
abbrev pub name_in : List ℕ → List ℕ
name_in text = word_of (drop 1 (drop (length (word_of text)) text))

-- behind the name a line feed stands
abbrev pub after_name : ℕ → List ℕ → List ℕ → HeaderCut
after_name n name bs = if begins_with 10 bs then found name (n + 1) (drop 1 bs) else missing n bs

-- behind the space the name stands, if it may be one
abbrev pub at_name : Bool → ℕ → List ℕ → HeaderCut
at_name may_stand n bs = if may_stand then after_name (n + length (word_of bs)) (word_of bs) (drop (length (word_of bs)) bs) else missing n bs

-- behind the kind one space stands
abbrev pub after_word : Bool → ℕ → List ℕ → HeaderCut
after_word may_stand n bs = if begins_with 32 bs then at_name may_stand (n + 1) (drop 1 bs) else missing n bs

-- the same, given whether the name may stand in a header
abbrev pub header_by : Bool → List ℕ → List ℕ → HeaderCut
header_by may_stand kind text = if bytes_eq (word_of text) kind then after_word may_stand (length kind) (drop (length kind) text) else missing 0 text

-- the header line is a kind, one space and a name that may stand in one, and it ends with a line feed
abbrev pub named_header : (List ℕ → Bool) → List ℕ → List ℕ → HeaderCut
named_header may_stand kind text = header_by (may_stand (name_in text)) kind text

-- the header line is a kind, and it ends with a line feed
abbrev pub plain_header : List ℕ → List ℕ → HeaderCut
plain_header kind text = if bytes_eq (word_of text) kind then after_name (length kind) [] (drop (length kind) text) else missing 0 text
