-- A size is small.
use Rattle.std.proofs.Common.{◌≡◌, ℕ, ◌≤◌, Bool, true, false, nat_le, cond, Option, None, Some, refl, IfSome}
use Rattle.std.specs.Option.{option_and_then}
use Rattle.std.proofs.lemmas.Bool.{leb-true}
use Rattle.vd_base.specs.Layout.{bounded, most_cells}

bounded_small : (n : ℕ) → IfSome (bounded n) (λ m. m ≤ most_cells)
bounded_small n = go (nat_le n most_cells) refl where
  go : (b : Bool) → nat_le n most_cells ≡ b → IfSome (cond b (Some n) None) (λ m. m ≤ most_cells)
  go true e = leb-true n most_cells e
  go false e = tt

-- what is bounded is small
pub size_small : (o : Option ℕ) → IfSome (option_and_then bounded o) (λ m. m ≤ most_cells)
size_small None = tt
size_small (Some n) = bounded_small n
