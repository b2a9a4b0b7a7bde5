-- Tables of structs that tell the same. Two tables of the same structs may list them in different orders, and typing can't tell them apart.
use Rattle.std.specs.Prelude.{◌≡◌, ℕ, List}
use Rattle.vd_base.specs.declared.ctype.CType.{CType}
use Rattle.vd_base.specs.Layout.{Table, size_of, slot_of, typ_of}

-- Two tables tell the same sizes, and the same places and types of fields.
pub record AreAlike (a b : Table) : Type 0 where
  pub sizes : (t : CType) → size_of a t ≡ size_of b t
  pub slots : (s f : List ℕ) → slot_of a s f ≡ slot_of b s f
  pub types : (s : List ℕ) (index : ℕ) → typ_of a s index ≡ typ_of b s index
