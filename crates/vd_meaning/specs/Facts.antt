-- When facts are true.
use Rattle.std.specs.Prelude.{◌≡◌, List, [], ◌∷◌, ℤ, ◌≤ℤ◌, ◌<ℤ◌}
use Rattle.vd_logic.specs.declared.assertion.Rel as relation
use Rattle.vd_logic.specs.declared.assertion.Rel.TheVariants as rel
use Rattle.vd_terms.specs.declared.assertion.FactOf.TheVariants as fact
use Rattle.vd_terms.specs.Assertions.{Fact}
use Rattle.vd_meaning.specs.Values.{Val, Undef, Int, Ptr, Arg, as_int}
use Rattle.vd_meaning.specs.Operations.{num}
use Rattle.vd_meaning.specs.Meaning.{World, Valuation, meaning, int_of, val_of_term, list_of}

abbrev pub IsInt : Val → Type 0
IsInt Undef = ⊥
IsInt (Int n) = Unit {0}
IsInt (Ptr b o) = ⊥

abbrev pub IsPtr : Val → Type 0
IsPtr Undef = ⊥
IsPtr (Int n) = ⊥
IsPtr (Ptr b o) = Unit {0}

-- each element is an integer value of which the signed number is from a to b
abbrev pub IsEach : List Val → ℤ → ℤ → Type 0
IsEach [] a b = Unit {0}
IsEach (v ∷ l) a b = (IsInt v × ((a ≤ℤ num v) × (num v ≤ℤ b))) × IsEach l a b

-- terms of one sort are equal or not; integers are ordered
abbrev pub Compares : relation.Rel → Arg → Arg → Type 0
Compares rel.Eq x y = x ≡ y
Compares rel.Ne x y = x ≡ y → ⊥
Compares rel.Le x y = as_int x ≤ℤ as_int y
Compares rel.Lt x y = as_int x <ℤ as_int y

abbrev pub IsTrueFact : World → Valuation → Fact → Type 0
IsTrueFact world w (fact.Rel r x y) = Compares r (meaning world w x) (meaning world w y)
IsTrueFact world w (fact.IsInt x) = IsInt (val_of_term world w x)
IsTrueFact world w (fact.IsPtr x) = IsPtr (val_of_term world w x)
IsTrueFact world w (fact.Each l x y) = IsEach (list_of world w l) (int_of world w x) (int_of world w y)

abbrev pub AreTrue : World → Valuation → List Fact → Type 0
AreTrue world w [] = Unit {0}
AreTrue world w (p ∷ ps) = IsTrueFact world w p × AreTrue world w ps
