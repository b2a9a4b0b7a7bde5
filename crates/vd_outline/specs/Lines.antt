-- Lines of a text.
use Rattle.std.specs.Prelude.{ℕ, Bool, not, ◌&&◌, ◌==◌, List, [], ◌∷◌, ◌++◌, nat_le, codes}
use Rattle.std.specs.List.{list_all}
use Rattle.std.specs.Str.{bytes_eq}

-- a printable byte
abbrev pub is_line_byte : ℕ → Bool
is_line_byte b = nat_le 32 b && nat_le b 126

-- printable bytes alone
abbrev pub is_line : List ℕ → Bool
is_line line = list_all is_line_byte line

-- none of the bytes is that one
abbrev pub lacks : ℕ → List ℕ → Bool
lacks byte bytes = list_all (λ b. not (b == byte)) bytes

-- the bytes of lines, each ended by a line feed
abbrev pub joined : List (List ℕ) → List ℕ
joined [] = []
joined (l ∷ ls) = l ++ 10 ∷ joined ls

-- the line that closes a section
abbrev pub is_end : List ℕ → Bool
is_end line = bytes_eq line (codes "end")
