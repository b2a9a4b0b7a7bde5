-- Where the content of a section ends.
use Rattle.std.specs.Prelude.{ℕ, suc, ◌==◌, Bool, ◌&&◌, List, [], ◌∷◌, take, codes, Option, None, Some, option_map, if◌then◌else◌}
use Rattle.std.specs.Str.{bytes_eq}

-- the bytes begin with the line `end`
abbrev pub begins_end : List ℕ → Bool
begins_end bs = bytes_eq (take 4 bs) (codes "end\n")

-- how many bytes stand before the first line `end`, where the bytes begin a line or do not
abbrev pub end_at : Bool → List ℕ → Option ℕ
end_at starts [] = None
end_at starts (b ∷ bs) = if starts && begins_end (b ∷ bs) then Some 0 else option_map suc (end_at (b == 10) bs)
