-- Calls: of functions, of what is built in, of `malloc` and of `spawn`.
use Rattle.std.specs.Prelude.{ℕ, ◌==◌, Bool, false, cond, List, [], ◌∷◌, codes, Option, None, Some, option_map, length, slice_get, if◌then◌else◌}
use Rattle.std.specs.Str.{bytes_eq}
use Rattle.vd_base.specs.declared.ctype.CType.{CType, Void, Lock}
use Rattle.vd_base.specs.declared.ctype.Field.{Field}
use Rattle.vd_clight.specs.declared.program.Signature.{Signature}
use Rattle.vd_clight.specs.declared.syntax.Expr.{Expr}
use Rattle.vd_clight.specs.declared.syntax.ExprNode.{ExprNode, ExprNode-F, out-ExprNode}
use Rattle.vd_clight.specs.declared.syntax.ExprNode.TheOpen as node
use Rattle.vd_clight.specs.declared.typed.LockOp.TheVariants as lock
use Rattle.vd_clight.specs.declared.typed.TExpr.{TExpr}
use Rattle.vd_clight.specs.declared.typed.TStmt.{TStmt, Skip, Malloc, Free}
use Rattle.vd_clight.specs.declared.typed.TStmt.{Lock as LockStatement}
use Rattle.vd_judge.specs.declared.builtin.Builtin.{Builtin}
use Rattle.vd_judge.specs.declared.builtin.Builtin.TheVariants as builtin
use Rattle.vd_judge.specs.declared.fault.TypeFault.{TypeFault}
use Rattle.vd_judge.specs.declared.fault.TypeFault.TheVariants as fault
use Rattle.vd_judge.specs.declared.checked.Checked.{Checked}
use Rattle.vd_judge.specs.declared.checked.Checked.TheVariants.{Typed, Untyped}
use Rattle.vd_judge.specs.declared.found.Operand.{Operand}
use Rattle.vd_judge.specs.declared.found.Destination.{Destination}
use Rattle.vd_judge.specs.declared.found.Destination.TheVariants as to
use Rattle.vd_judge.specs.declared.found.Target.{Target}
use Rattle.vd_judge.specs.Checked.{fine, unless, where_fine}
use Rattle.vd_judge.specs.Environment.{Environment}
use Rattle.vd_judge.specs.Found.{pointer_to}
use Rattle.vd_judge.specs.Operation.{wants}
use Rattle.vd_judge.specs.Place.{cells}
use Rattle.vd_judge.specs.Types.{converts, is_void}

-- the item of a list of one
abbrev pub one_of : {A : Type 0} → List A → Option A
one_of (a ∷ []) = Some a
one_of _ = None

-- the items of a list of two
abbrev pub two_of : {A : Type 0} → List A → Option (A × A)
two_of (a ∷ b ∷ []) = Some (a, b)
two_of _ = None

-- ---- arguments

-- a value that has to have a type, if any
abbrev pub passed_by : Option CType → Operand → Checked TExpr
passed_by None o = fine o.value
passed_by (Some t) o = unless (wants t o) o.value

-- the type of a parameter
abbrev pub wanted_at : List Field → ℕ → Option CType
wanted_at params k = option_map (λ f. f.typ) (slice_get params k)

-- ---- results

-- the statement itself disagrees, and not an expression in it
abbrev pub disagrees : ℕ → TypeFault
disagrees place = fault.Mismatch place Void Void

-- a value of one type goes to a variable of another
abbrev pub wants_type : ℕ → CType → CType → Option TypeFault
wants_type place wanted typ = cond (converts false typ wanted) None (Some (fault.Mismatch place wanted typ))

abbrev pub delivered_to : ℕ → Destination → Checked (Option ℕ)
delivered_to at (to.Temporary x) = fine (Some x)
delivered_to at (to.Memory l) = Typed None (Some (fault.NotNormal at))

-- a call's result goes to a temporary, or is dropped
abbrev pub delivered : ℕ → CType → Option Target → Checked (Option ℕ)
delivered place typ None = fine None
delivered place typ (Some t) = where_fine (wants_type place t.typ typ) (delivered_to t.place t.to)

-- ---- functions

abbrev pub wants_count : ℕ → ℕ → ℕ → Option TypeFault
wants_count place wanted count = cond (wanted == count) None (Some (disagrees place))

-- what a function gives that is called with so many arguments
abbrev pub known : ℕ → List ℕ → ℕ → Option Signature → Checked CType
known place name count None = Untyped (fault.Unknown place name)
known place name count (Some s) = unless (wants_count place (length s.params) count) s.ret

abbrev pub params_of : Option Signature → List Field
params_of None = []
params_of (Some s) = s.params

-- ---- what is built in

abbrev pub builtin_of : List ℕ → Option Builtin
builtin_of name =
    if bytes_eq name (codes "free") then Some builtin.Free
    else if bytes_eq name (codes "makelock") then Some (builtin.Lock lock.Make)
    else if bytes_eq name (codes "acquire") then Some (builtin.Lock lock.Acquire)
    else if bytes_eq name (codes "release") then Some (builtin.Lock lock.Release)
    else if bytes_eq name (codes "freelock") then Some (builtin.Lock lock.Free)
    else None

-- the type of its parameter; it gives nothing
abbrev pub parameter_of : Builtin → CType
parameter_of builtin.Free = pointer_to Void
parameter_of (builtin.Lock o) = pointer_to Lock

abbrev pub builtin_statement : Builtin → TExpr → TStmt
builtin_statement builtin.Free e = Free e
builtin_statement (builtin.Lock o) e = LockStatement o e

-- ---- `malloc`

abbrev pub size_node : ExprNode-F ExprNode Expr → Option CType
size_node (node.SizeOf t) = Some t
size_node _ = None

-- the type that an expression is the size of
abbrev pub size_named : Expr → Option CType
size_named e = size_node (out-ExprNode e.node)

abbrev pub malloc_by : Environment → ℕ → ℕ → Option CType → Checked ℕ
malloc_by env place at None = Untyped (disagrees place)
malloc_by env place at (Some t) = cells env.structs at t

abbrev pub malloc_cells : Environment → ℕ → Option Expr → Checked ℕ
malloc_cells env place None = Untyped (disagrees place)
malloc_cells env place (Some e) = malloc_by env place e.place (size_named e)

-- without a temporary there is a fault, and no statement
abbrev pub malloc_statement : Option ℕ → ℕ → TStmt
malloc_statement None n = Skip
malloc_statement (Some x) n = Malloc x n

-- ---- `spawn`

abbrev pub name_node : ExprNode-F ExprNode Expr → Option (List ℕ)
name_node (node.Ident name) = Some name
name_node _ = None

-- the name that an expression is
abbrev pub name_of : Expr → Option (List ℕ)
name_of e = name_node (out-ExprNode e.node)

abbrev pub starts_with : ℕ → Bool → Option Field → Checked CType
starts_with at void None = Untyped (disagrees at)
starts_with at void (Some p) = cond void (fine p.typ) (Untyped (disagrees at))

-- the type of the one parameter of a void function
abbrev pub starts_by : ℕ → List ℕ → Option Signature → Checked CType
starts_by at name None = Untyped (fault.Unknown at name)
starts_by at name (Some s) = starts_with at (is_void s.ret) (one_of s.params)
