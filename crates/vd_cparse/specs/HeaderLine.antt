-- The header line of a section, and where its content ends.
use Rattle.std.specs.Prelude.{ℕ, suc, ◌+◌, ◌==◌, Bool, false, ◌&&◌, List, [], ◌∷◌, length, take, drop, take_while, codes, Option, None, Some, option_map, if◌then◌else◌}
use Rattle.std.specs.Str.{bytes_eq}
use Rattle.vd_base.specs.Name.{is_word_byte}
use Rattle.vd_cgrammar.specs.Words.{is_header_name}

-- What stands in front of a text: a header line with this name, which ends at a place with the content behind it; or so many bytes that a header line may begin with, and what stands behind them.
pub data HeaderCut : Type 0 where
  found : List ℕ → ℕ → List ℕ → HeaderCut
  missing : ℕ → List ℕ → HeaderCut

-- the letters, digits and `_` in front
abbrev pub word_of : List ℕ → List ℕ
word_of bs = take_while is_word_byte bs

-- the first byte is this one
abbrev pub begins_with : ℕ → List ℕ → Bool
begins_with b [] = false
begins_with b (x ∷ xs) = x == b

-- behind the name a line feed stands
abbrev pub after_name : ℕ → List ℕ → List ℕ → HeaderCut
after_name n name bs = if begins_with 10 bs then found name (n + 1) (drop 1 bs) else missing n bs

-- behind the space the name stands
abbrev pub at_name : ℕ → List ℕ → HeaderCut
at_name n bs = if is_header_name (word_of bs) then after_name (n + length (word_of bs)) (word_of bs) (drop (length (word_of bs)) bs) else missing n bs

-- behind the kind one space stands
abbrev pub after_word : ℕ → List ℕ → HeaderCut
after_word n bs = if begins_with 32 bs then at_name (n + 1) (drop 1 bs) else missing n bs

-- the header line is a kind, one space and a name, and it ends with a line feed
abbrev pub header_of : List ℕ → List ℕ → HeaderCut
header_of kind text = if bytes_eq (word_of text) kind then after_word (length kind) (drop (length kind) text) else missing 0 text

-- the bytes begin with the line `end`
abbrev pub begins_end : List ℕ → Bool
begins_end bs = bytes_eq (take 4 bs) (codes "end\n")

-- how many bytes stand before the first line `end`, where the bytes begin a line or do not
abbrev pub end_at : Bool → List ℕ → Option ℕ
end_at starts [] = None
end_at starts (b ∷ bs) = if starts && begins_end (b ∷ bs) then Some 0 else option_map suc (end_at (b == 10) bs)
