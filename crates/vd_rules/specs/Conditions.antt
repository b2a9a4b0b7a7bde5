-- Conditions in order: what passes them all, or the first that fails.
use Rattle.std.specs.Prelude.{Bool, None, Option, Some, false, true, ℕ}
use Rattle.vd_rules.specs.declared.checked.Checked.{Checked}
use Rattle.vd_rules.specs.declared.checked.Checked.TheVariants.{Passed, Refused}

infixl 10 ◌>>=◌
abbrev pub ◌>>=◌ : {A B : Type 0} → Checked A → (A → Checked B) → Checked B
Passed a >>= f = f a
Refused c >>= f = Refused c

infixl 10 ◌>>◌
abbrev pub ◌>>◌ : {B : Type 0} → Checked (Unit {0}) → Checked B → Checked B
Passed a >> b = b
Refused c >> b = Refused c

-- the value, or the condition that fails without one
abbrev pub required : {A : Type 0} → ℕ → Option A → Checked A
required c None = Refused c
required c (Some a) = Passed a

-- the condition fails where the test does
abbrev pub tested : ℕ → Bool → Checked (Unit {0})
tested c false = Refused c
tested c true = Passed tt
