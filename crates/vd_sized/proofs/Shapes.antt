-- Types apart by their outermost former.
use Rattle.std.proofs.Common.{◌≡◌, ℕ, Bool, true, false, List, Option, None, Some, refl, sym, ap, ◌∙◌}
use Rattle.vd_base.specs.declared.ctype.CType.{CType, CType-F, out-CType, out-roll-CType, map-CType, fold_out-CType}
use Rattle.vd_base.specs.declared.ctype.CType.TheOpen as layer
use Rattle.vd_base.specs.declared.ctype.CType.TheVariants as typ
use Rattle.vd_base.specs.declared.ctype.CType.TheVariants.{rolls-Array, rolls-Struct}
use Rattle.vd_heads.specs.Held.{held, held_layer}
use Rattle.vd_sized.specs.Cells.{is_one, is_one_layer}

pub out_Array : (of : CType) (n : ℕ) → out-CType (typ.Array of n) ≡ layer.Array of n
out_Array of n = ap out-CType (sym (rolls-Array of n)) ∙ out-roll-CType (layer.Array of n)

pub out_Struct : (name : List ℕ) → out-CType (typ.Struct name) ≡ layer.Struct name
out_Struct name = ap out-CType (sym (rolls-Struct name)) ∙ out-roll-CType (layer.Struct name)

-- ---- by what is held and whether it is one cell

pub is_one_by : (t : CType) (x : CType-F CType) → out-CType t ≡ x → is_one t ≡ is_one_layer (map-CType CType Bool is_one x)
unfolding is_one
is_one_by t x e = fold_out-CType Bool is_one_layer t ∙ ap (λ y. is_one_layer (map-CType CType Bool is_one y)) e

pub held_by : (t : CType) (x : CType-F CType) → out-CType t ≡ x → held t ≡ held_layer (map-CType CType (Option (List ℕ)) held x)
unfolding held
held_by t x e = fold_out-CType (Option (List ℕ)) held_layer t ∙ ap (λ y. held_layer (map-CType CType (Option (List ℕ)) held y)) e

pub held_Struct : (name : List ℕ) → held (typ.Struct name) ≡ Some name
held_Struct name = held_by (typ.Struct name) (layer.Struct name) (out_Struct name)

pub held_Array : (of : CType) (n : ℕ) → held (typ.Array of n) ≡ held of
held_Array of n = held_by (typ.Array of n) (layer.Array of n) (out_Array of n)

-- one cell holds no struct
pub one_holds_none : (t : CType) → is_one t ≡ true → held t ≡ None
one_holds_none t one = go (out-CType t) refl where
  no : false ≡ true → {A : Type 0} → A
  no e = cc

  go : (x : CType-F CType) → out-CType t ≡ x → held t ≡ None
  go layer.Void e = held_by t layer.Void e
  go layer.Int e = held_by t layer.Int e
  go layer.Unsigned e = held_by t layer.Unsigned e
  go layer.Lock e = held_by t layer.Lock e
  go (layer.Struct name) e = no (sym (is_one_by t (layer.Struct name) e) ∙ one)
  go (layer.Pointer to) e = held_by t (layer.Pointer to) e
  go (layer.Array of n) e = no (sym (is_one_by t (layer.Array of n) e) ∙ one)

-- ---- apart

pub one_no_array : (t of : CType) (n : ℕ) → is_one t ≡ true → t ≡ typ.Array of n → ⊥
one_no_array t of n one e = no (sym (is_one_by t (layer.Array of n) (ap out-CType e ∙ out_Array of n)) ∙ one) where
  no : false ≡ true → ⊥
  no e = cc

pub one_no_struct : (t : CType) (name : List ℕ) → is_one t ≡ true → t ≡ typ.Struct name → ⊥
one_no_struct t name one e = no (sym (is_one_by t (layer.Struct name) (ap out-CType e ∙ out_Struct name)) ∙ one) where
  no : false ≡ true → ⊥
  no e = cc

layer_array_no_struct : (x : CType-F CType) (of : CType) (n : ℕ) (name : List ℕ) → x ≡ layer.Array of n → x ≡ layer.Struct name → ⊥
layer_array_no_struct x of n name e f = cc

layer_same_array : (x : CType-F CType) (a b : CType) (n m : ℕ) → x ≡ layer.Array a n → x ≡ layer.Array b m → (a ≡ b) × (n ≡ m)
layer_same_array x a b n m e f = (cc, cc)

layer_same_struct : (x : CType-F CType) (a b : List ℕ) → x ≡ layer.Struct a → x ≡ layer.Struct b → a ≡ b
layer_same_struct x a b e f = cc

pub array_no_struct : (t of : CType) (n : ℕ) (name : List ℕ) → t ≡ typ.Array of n → t ≡ typ.Struct name → ⊥
array_no_struct t of n name e f = layer_array_no_struct (out-CType t) of n name (ap out-CType e ∙ out_Array of n) (ap out-CType f ∙ out_Struct name)

pub same_array : (t a b : CType) (n m : ℕ) → t ≡ typ.Array a n → t ≡ typ.Array b m → (a ≡ b) × (n ≡ m)
same_array t a b n m e f = layer_same_array (out-CType t) a b n m (ap out-CType e ∙ out_Array a n) (ap out-CType f ∙ out_Array b m)

pub same_struct : (t : CType) (a b : List ℕ) → t ≡ typ.Struct a → t ≡ typ.Struct b → a ≡ b
same_struct t a b e f = layer_same_struct (out-CType t) a b (ap out-CType e ∙ out_Struct a) (ap out-CType f ∙ out_Struct b)
