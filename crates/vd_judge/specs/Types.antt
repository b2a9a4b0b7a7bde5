-- What kind of type a type is, and which types convert.
use Rattle.std.specs.Prelude.{ℕ, nat_eq, Bool, true, false, cond, ◌&&◌, ◌||◌, List, Option, None, Some}
use Rattle.std.specs.Option.{is_some}
use Rattle.std.specs.Str.{bytes_eq}
use Rattle.vd_base.specs.declared.ctype.CType.{CType, CType-F, out-CType, fold-CType}
use Rattle.vd_base.specs.declared.ctype.CType.TheOpen as typ
use Rattle.vd_clight.specs.declared.typed.Kind.{Kind}
use Rattle.vd_clight.specs.declared.typed.Kind.TheVariants as kind

abbrev pub is_void_layer : CType-F CType → Bool
is_void_layer typ.Void = true
is_void_layer typ.Int = false
is_void_layer typ.Unsigned = false
is_void_layer typ.Lock = false
is_void_layer (typ.Struct name) = false
is_void_layer (typ.Pointer to) = false
is_void_layer (typ.Array of n) = false

abbrev pub is_void : CType → Bool
is_void t = is_void_layer (out-CType t)

abbrev pub is_int_layer : CType-F CType → Bool
is_int_layer typ.Void = false
is_int_layer typ.Int = true
is_int_layer typ.Unsigned = false
is_int_layer typ.Lock = false
is_int_layer (typ.Struct name) = false
is_int_layer (typ.Pointer to) = false
is_int_layer (typ.Array of n) = false

abbrev pub is_int : CType → Bool
is_int t = is_int_layer (out-CType t)

abbrev pub is_unsigned_layer : CType-F CType → Bool
is_unsigned_layer typ.Void = false
is_unsigned_layer typ.Int = false
is_unsigned_layer typ.Unsigned = true
is_unsigned_layer typ.Lock = false
is_unsigned_layer (typ.Struct name) = false
is_unsigned_layer (typ.Pointer to) = false
is_unsigned_layer (typ.Array of n) = false

abbrev pub is_unsigned : CType → Bool
is_unsigned t = is_unsigned_layer (out-CType t)

abbrev pub is_lock_layer : CType-F CType → Bool
is_lock_layer typ.Void = false
is_lock_layer typ.Int = false
is_lock_layer typ.Unsigned = false
is_lock_layer typ.Lock = true
is_lock_layer (typ.Struct name) = false
is_lock_layer (typ.Pointer to) = false
is_lock_layer (typ.Array of n) = false

abbrev pub is_lock : CType → Bool
is_lock t = is_lock_layer (out-CType t)

-- int or unsigned
abbrev pub is_integer : CType → Bool
is_integer t = is_int t || is_unsigned t

abbrev pub target_layer : CType-F CType → Option CType
target_layer typ.Void = None
target_layer typ.Int = None
target_layer typ.Unsigned = None
target_layer typ.Lock = None
target_layer (typ.Struct name) = None
target_layer (typ.Pointer to) = Some to
target_layer (typ.Array of n) = None

-- what a pointer points to
abbrev pub target_of : CType → Option CType
target_of t = target_layer (out-CType t)

abbrev pub element_layer : CType-F CType → Option CType
element_layer typ.Void = None
element_layer typ.Int = None
element_layer typ.Unsigned = None
element_layer typ.Lock = None
element_layer (typ.Struct name) = None
element_layer (typ.Pointer to) = None
element_layer (typ.Array of n) = Some of

-- what an array holds
abbrev pub element_of : CType → Option CType
element_of t = element_layer (out-CType t)

abbrev pub length_layer : CType-F CType → Option ℕ
length_layer typ.Void = None
length_layer typ.Int = None
length_layer typ.Unsigned = None
length_layer typ.Lock = None
length_layer (typ.Struct name) = None
length_layer (typ.Pointer to) = None
length_layer (typ.Array of n) = Some n

-- how many elements an array has
abbrev pub length_of : CType → Option ℕ
length_of t = length_layer (out-CType t)

abbrev pub struct_layer : CType-F CType → Option (List ℕ)
struct_layer typ.Void = None
struct_layer typ.Int = None
struct_layer typ.Unsigned = None
struct_layer typ.Lock = None
struct_layer (typ.Struct name) = Some name
struct_layer (typ.Pointer to) = None
struct_layer (typ.Array of n) = None

-- the name of a struct
abbrev pub struct_of : CType → Option (List ℕ)
struct_of t = struct_layer (out-CType t)

abbrev pub is_pointer : CType → Bool
is_pointer t = is_some (target_of t)

-- an integer or a pointer: what a cell holds
abbrev pub is_scalar : CType → Bool
is_scalar t = is_integer t || is_pointer t

-- ---- one type

-- there is a value, and the test holds of it
abbrev pub holds_of : {A : Type 0} → Option A → (A → Bool) → Bool
holds_of None test = false
holds_of (Some x) test = test x

abbrev pub same_layer : CType-F (CType → Bool) → CType → Bool
same_layer typ.Void b = is_void b
same_layer typ.Int b = is_int b
same_layer typ.Unsigned b = is_unsigned b
same_layer typ.Lock b = is_lock b
same_layer (typ.Struct name) b = holds_of (struct_of b) (bytes_eq name)
same_layer (typ.Pointer same) b = holds_of (target_of b) same
same_layer (typ.Array same n) b = holds_of (element_of b) (λ e. same e && holds_of (length_of b) (λ m. nat_eq m n))

-- two types are one
unfoldable pub same_type : CType → CType → Bool
same_type = fold-CType (CType → Bool) same_layer

-- ---- conversions

-- two targets of pointers are one, or one of them is void
abbrev pub alike : Option CType → Option CType → Bool
alike None b = false
alike (Some a) None = false
alike (Some a) (Some b) = (is_void a || is_void b) || same_type a b

-- integers convert to one another; a pointer converts to its own type and to and from `void *`; the constant 0 converts to any pointer
abbrev pub converts : Bool → CType → CType → Bool
converts zero from to = (is_integer from && is_integer to) || (is_pointer to && (zero || alike (target_of from) (target_of to)))

-- a cast goes between integers, between pointers, and from the constant 0 to any pointer
abbrev pub castable : Bool → CType → CType → Bool
castable zero from to = (is_integer from && is_integer to) || (is_pointer to && (zero || is_pointer from))

-- how an operation of a type reads its operands
abbrev pub kind_of : CType → Kind
kind_of t = cond (is_unsigned t) kind.Unsigned kind.Signed
