-- The struct that a type holds by value.
use Rattle.std.specs.Prelude.{Option, None, Some}
use Rattle.vd_base.specs.declared.ctype.CType.{CType, CType-F, fold-CType}
use Rattle.vd_base.specs.declared.ctype.CType.TheOpen as typ
use Rattle.vd_heads.specs.Declaration.{Bytes}

abbrev pub held_layer : CType-F (Option Bytes) → Option Bytes
held_layer (typ.Struct name) = Some name
held_layer (typ.Array of n) = of
held_layer _ = None

-- the struct that a type holds by value
unfoldable pub held : CType → Option Bytes
held = fold-CType (Option Bytes) held_layer
