-- The struct that a type holds, by the type's outermost layer.
use Rattle.std.proofs.Common.{◌≡◌, ℕ, sym, ◌∙◌, ap, Option, Some, None}
use Rattle.vd_base.specs.declared.ctype.CType.{CType, CType-F, fold-roll-CType, roll-CType, map-CType}
use Rattle.vd_base.specs.declared.ctype.CType.TheVariants as typ
use Rattle.vd_base.specs.declared.ctype.CType.TheVariants.{rolls-Struct, rolls-Array, rolls-Void, rolls-Int, rolls-Unsigned, rolls-Lock, rolls-Pointer}
use Rattle.vd_base.specs.declared.ctype.CType.TheOpen as layer
use Rattle.vd_heads.specs.Declaration.{Bytes}
use Rattle.vd_heads.specs.Held.{held, held_layer}

held_roll : (x : CType-F CType) → held (roll-CType x) ≡ held_layer (map-CType CType (Option Bytes) held x)
unfolding held
held_roll x = fold-roll-CType (Option Bytes) held_layer x

pub held-Struct : (name : Bytes) → held (typ.Struct name) ≡ Some name
held-Struct name = ap held (sym (rolls-Struct name)) ∙ held_roll (layer.Struct name)

pub held-Array : (of : CType) (n : ℕ) → held (typ.Array of n) ≡ held of
held-Array of n = ap held (sym (rolls-Array of n)) ∙ held_roll (layer.Array of n)

pub held-Void : held typ.Void ≡ None
held-Void = ap held (sym rolls-Void) ∙ held_roll layer.Void

pub held-Int : held typ.Int ≡ None
held-Int = ap held (sym rolls-Int) ∙ held_roll layer.Int

pub held-Unsigned : held typ.Unsigned ≡ None
held-Unsigned = ap held (sym rolls-Unsigned) ∙ held_roll layer.Unsigned

pub held-Lock : held typ.Lock ≡ None
held-Lock = ap held (sym rolls-Lock) ∙ held_roll layer.Lock

pub held-Pointer : (to : CType) → held (typ.Pointer to) ≡ None
held-Pointer to = ap held (sym (rolls-Pointer to)) ∙ held_roll (layer.Pointer to)
