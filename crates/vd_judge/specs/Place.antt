-- Numbers, variables, sizes and places in memory.
use Rattle.std.specs.Prelude.{ℕ, ◌*◌, ◌≤◌, ⊤, ◌==◌, Bool, cond, List, [], ◌∷◌, ◌++◌, Option, None, Some, option_map, option_and_then}
use Rattle.std.specs.Option.{is_some}
use Rattle.vd_base.specs.declared.ctype.CType.{CType, Void, Int, Unsigned}
use Rattle.vd_base.specs.Layout.{Table, most_cells, size_of, slot_of, typ_of}
use Rattle.vd_clight.specs.declared.typed.Root.{Root}
use Rattle.vd_clight.specs.declared.typed.Root.TheVariants as root
use Rattle.vd_clight.specs.declared.typed.Part.{Part, Offset, Index}
use Rattle.vd_clight.specs.declared.typed.Part.TheOpen as expression
use Rattle.vd_clight.specs.declared.typed.Lval.{Lval, roll-Lval}
use Rattle.vd_clight.specs.declared.typed.TExpr.{TExpr, TExpr-F, out-TExpr, Const, Addr}
use Rattle.vd_judge.specs.declared.fault.TypeFault.{TypeFault}
use Rattle.vd_judge.specs.declared.fault.TypeFault.TheVariants as fault
use Rattle.vd_judge.specs.declared.checked.Checked.{Checked}
use Rattle.vd_judge.specs.declared.checked.Checked.TheVariants.{Typed, Untyped}
use Rattle.vd_judge.specs.declared.found.Form.{Form}
use Rattle.vd_judge.specs.declared.found.Form.TheVariants as form
use Rattle.vd_judge.specs.declared.found.Found.{Found}
use Rattle.vd_judge.specs.declared.found.Operand.{Operand}
use Rattle.vd_judge.specs.declared.place.Pointer.{Pointer}
use Rattle.vd_judge.specs.Checked.{fine, follows}
use Rattle.vd_judge.specs.Environment.{Environment, local_of, global_of}
use Rattle.vd_judge.specs.Found.{pointer_to}
use Rattle.vd_judge.specs.Operation.{computed}
use Rattle.vd_judge.specs.Types.{is_void, target_of, struct_of, kind_of, holds_of}

-- ---- numbers and sizes

-- the number token 0 is the constant 0
abbrev pub number_form : ℕ → Form
number_form n = cond (n == 0) form.Zero (form.Value (Const n))

abbrev pub number : ℕ → ℕ → Bool → Found
number place n unsigned = record { place = place; typ = cond unsigned Unsigned Int; form = number_form n }

-- why a type has no size: its struct is unknown, or there is no size for it
abbrev pub unsized : ℕ → CType → Option (List ℕ) → TypeFault
unsized place t None = fault.Mismatch place Void t
unsized place t (Some s) = fault.Unknown place s

abbrev pub cells_by : ℕ → CType → Option ℕ → Checked ℕ
cells_by place t None = Untyped (unsized place t (struct_of t))
cells_by place t (Some n) = fine n

-- the cells of a type
abbrev pub cells : Table → ℕ → CType → Checked ℕ
cells structs place t = cells_by place t (size_of structs t)

-- cells that a type may have
abbrev pub IsSmall : Checked ℕ → Type 0
IsSmall (Typed n fault) = n ≤ most_cells
IsSmall (Untyped fault) = ⊤

abbrev pub sized : Table → ℕ → CType → Checked Found
sized structs place t = follows (cells structs place t) (λ n. fine (computed place Unsigned (Const (4 * n))))

abbrev pub aligned : Table → ℕ → CType → Checked Found
aligned structs place t = follows (cells structs place t) (λ n. fine (computed place Unsigned (Const 4)))

-- ---- variables

abbrev pub lval : Root → List Part → Lval
lval root path = roll-Lval (record { root = root; path = path })

abbrev pub in_memory : ℕ → CType → Lval → Found
in_memory place t l = record { place = place; typ = t; form = form.Memory l }

-- a global begins with its own first cell
abbrev pub global_found : Table → ℕ → List ℕ → CType → Checked Found
global_found structs place name t = follows (cells structs place t) (λ n. fine (in_memory place t (lval (root.Global name n) [])))

abbrev pub global_by : Environment → ℕ → List ℕ → Option CType → Checked Found
global_by env place name None = Untyped (fault.Unknown place name)
global_by env place name (Some t) = global_found env.structs place name t

abbrev pub variable_by : Environment → ℕ → List ℕ → Option (ℕ × CType) → Checked Found
variable_by env place name None = global_by env place name (global_of env name)
variable_by env place name (Some x) = fine (record { place = place; typ = x.1; form = form.Temporary x.0 })

-- a name is a parameter or temporary, else a global
abbrev pub variable : Environment → ℕ → List ℕ → Checked Found
variable env place name = variable_by env place name (local_of env name)

-- ---- addresses

abbrev pub address_layer : TExpr-F Part TExpr Lval → Option Lval
address_layer (expression.Const n) = None
address_layer (expression.Temp x) = Some (lval (root.Temp x) [])
address_layer (expression.Addr l) = Some l
address_layer (expression.Unary o k a) = None
address_layer (expression.Binary o k a b) = None

-- the place that a pointer's value points to: an address has a root, a temporary or a global
abbrev pub address_in : TExpr → Option Lval
address_in e = address_layer (out-TExpr e)

-- a place further on
abbrev pub stepped : Part → Lval → Lval
stepped part l = lval l.root (l.path ++ part ∷ [])

-- no type is wanted that the expression could have
abbrev pub no_place : ℕ → CType → TypeFault
no_place at typ = fault.Mismatch at Void typ

-- ---- pointers

-- a pointer whose address has a root; any other disagrees itself
abbrev pub pointer_by : Operand → Option CType → Option Lval → Checked Pointer
pointer_by o None l = Untyped (no_place o.place o.typ)
pointer_by o (Some t) None = Untyped (no_place o.place o.typ)
pointer_by o (Some t) (Some l) = fine (record { place = o.place; typ = o.typ; target = t; to = l })

abbrev pub as_pointer : Operand → Checked Pointer
as_pointer o = pointer_by o (target_of o.typ) (address_in o.value)

-- ---- `* e`

abbrev pub pointed : ℕ → Pointer → Checked Found
pointed place p = cond (is_void p.target) (Untyped (no_place p.place p.typ)) (fine (in_memory place p.target p.to))

-- ---- `e [ i ]`

-- an element has one cell
abbrev pub is_one_cell : Table → CType → Bool
is_one_cell structs t = holds_of (size_of structs t) (λ n. n == 1)

abbrev pub as_elements : Table → Pointer → Checked Pointer
as_elements structs p = cond (is_one_cell structs p.target) (fine p) (Untyped (no_place p.place p.typ))

abbrev pub element : ℕ → Pointer × Operand → Checked Found
element place p = fine (in_memory place p.0.target (stepped (Index (kind_of p.1.typ) p.1.value) p.0.to))

-- ---- `e . f` and `e -> f`

-- the offset and the type of a struct's field
abbrev pub field_in : Table → List ℕ → List ℕ → Option (ℕ × CType)
field_in structs s f = option_and_then (λ slot. option_map (λ t. (slot.offset, t)) (typ_of structs s slot.index)) (slot_of structs s f)

-- the name that is unknown: the struct's, where there is no such struct, else the field's
abbrev pub unknown_name : Table → CType → List ℕ → List ℕ → List ℕ
unknown_name structs t s f = cond (is_some (size_of structs t)) f s

abbrev pub selected_by : ℕ → List ℕ → Lval → Option (ℕ × CType) → Checked Found
selected_by place unknown l None = Untyped (fault.Unknown place unknown)
selected_by place unknown l (Some x) = fine (in_memory place x.1 (stepped (Offset x.0) l))

-- a field of the struct s, which is the type t, at a place
abbrev pub selected : Table → ℕ → List ℕ → CType → List ℕ → Lval → Checked Found
selected structs place f t s l = selected_by place (unknown_name structs t s f) l (field_in structs s f)

abbrev pub dot_struct : Table → ℕ → List ℕ → Found → Lval → Option (List ℕ) → Checked Found
dot_struct structs place f e l None = Untyped (no_place e.place e.typ)
dot_struct structs place f e l (Some s) = selected structs place f e.typ s l

abbrev pub dot_by : Table → ℕ → List ℕ → Found → Form → Checked Found
dot_by structs place f e form.Zero = Untyped (no_place e.place e.typ)
dot_by structs place f e (form.Value v) = Untyped (no_place e.place e.typ)
dot_by structs place f e (form.Temporary x) = Untyped (no_place e.place e.typ)
dot_by structs place f e (form.Memory l) = dot_struct structs place f e l (struct_of e.typ)
dot_by structs place f e (form.Test at a b equal) = Untyped (no_place e.place e.typ)

abbrev pub dot : Table → ℕ → List ℕ → Found → Checked Found
dot structs place f e = dot_by structs place f e e.form

abbrev pub arrow_by : Table → ℕ → List ℕ → Pointer → Option (List ℕ) → Checked Found
arrow_by structs place f p None = Untyped (no_place p.place p.typ)
arrow_by structs place f p (Some s) = selected structs place f p.target s p.to

abbrev pub arrow : Table → ℕ → List ℕ → Pointer → Checked Found
arrow structs place f p = arrow_by structs place f p (struct_of p.target)

-- ---- `& e`

-- the address of a place in memory
abbrev pub address_by : ℕ → Found → Form → Checked Found
address_by place e form.Zero = Untyped (no_place e.place e.typ)
address_by place e (form.Value v) = Untyped (no_place e.place e.typ)
address_by place e (form.Temporary x) = Untyped (no_place e.place e.typ)
address_by place e (form.Memory l) = fine (computed place (pointer_to e.typ) (Addr l))
address_by place e (form.Test at a b equal) = Untyped (no_place e.place e.typ)

-- `&` needs a place in memory
abbrev pub address : ℕ → Found → Checked Found
address place e = address_by place e e.form
