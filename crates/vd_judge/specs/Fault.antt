-- Faults of a function, and which of two comes first.
use Rattle.std.specs.Prelude.{ℕ, nat_lt, Bool, true, false, not, cond, ◌&&◌, ◌||◌, ◌==◌, Option, None, Some}
use Rattle.vd_judge.specs.declared.fault.TypeFault.{TypeFault}
use Rattle.vd_judge.specs.declared.fault.TypeFault.TheVariants as fault

-- where a fault stands
abbrev pub place_of : TypeFault → ℕ
place_of (fault.Unknown place name) = place
place_of (fault.Mismatch place wanted given) = place
place_of (fault.NotNormal place) = place
place_of fault.Memory = 0

-- a fault of the types, and not of the normal form
abbrev pub is_typing : TypeFault → Bool
is_typing (fault.Unknown place name) = true
is_typing (fault.Mismatch place wanted given) = true
is_typing (fault.NotNormal place) = false
is_typing fault.Memory = true

-- a fault stands at a smaller place than another; or at the same place, and then it is one of the types and the other one of the normal form
abbrev pub comes_before : TypeFault → TypeFault → Bool
comes_before a b = nat_lt (place_of a) (place_of b) || ((place_of a == place_of b && is_typing a) && not (is_typing b))

-- the first of two faults: the one read first, unless the other comes before it
abbrev pub earlier : TypeFault → TypeFault → TypeFault
earlier a b = cond (comes_before b a) b a

-- the first of the faults that are there
abbrev pub first : Option TypeFault → Option TypeFault → Option TypeFault
first None b = b
first (Some a) None = Some a
first (Some a) (Some b) = Some (earlier a b)
