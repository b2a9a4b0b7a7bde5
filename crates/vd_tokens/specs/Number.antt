-- What a number's token spells.
use Rattle.std.specs.Prelude.{ℕ, ◌+◌, ◌-◌, ◌*◌, ◌==◌, Bool, nat_le, List, [], ◌∷◌, Option, Some, None, if◌then◌else◌}
use Rattle.std.specs.List.{list_any}
use Rattle.vd_tokens.specs.Bytes.{is_digit}

-- the digits in front, behind those of a number
abbrev pub number_from : ℕ → List ℕ → ℕ
number_from n [] = n
number_from n (b ∷ bs) = if is_digit b then number_from (10 * n + (b - 48)) bs else n

-- the number that the digits in front spell
abbrev pub number_of : List ℕ → ℕ
number_of bs = number_from 0 bs

-- Of a number's token: the suffix `u` is written.
abbrev pub has_suffix : List ℕ → Bool
has_suffix bs = list_any (λ b. b == 117) bs

-- the number, if it is not more
abbrev pub at_most : ℕ → ℕ → Option ℕ
at_most most n = if nat_le n most then Some n else None
