-- The types of operations and casts.
use Rattle.std.specs.Prelude.{ℕ, Bool, true, false, not, cond, ◌&&◌, ◌||◌, Option, None, Some, if◌then◌else◌}
use Rattle.vd_base.specs.declared.ctype.CType.{CType, Void, Int, Unsigned}
use Rattle.vd_clight.specs.declared.syntax.BinOp.{BinOp}
use Rattle.vd_clight.specs.declared.syntax.BinOp.TheVariants as op
use Rattle.vd_clight.specs.declared.syntax.UnOp.TheVariants as prefix
use Rattle.vd_clight.specs.declared.typed.Cond.{Cond}
use Rattle.vd_clight.specs.declared.typed.Cond.TheVariants as test
use Rattle.vd_clight.specs.declared.typed.Kind.TheVariants as kind
use Rattle.vd_clight.specs.declared.typed.TExpr.{TExpr, Unary, Binary}
use Rattle.vd_judge.specs.declared.fault.TypeFault.{TypeFault}
use Rattle.vd_judge.specs.declared.fault.TypeFault.TheVariants as fault
use Rattle.vd_judge.specs.declared.checked.Checked.{Checked}
use Rattle.vd_judge.specs.declared.checked.Checked.TheVariants.{Untyped}
use Rattle.vd_judge.specs.declared.operation.Class.{Class}
use Rattle.vd_judge.specs.declared.operation.Class.TheVariants as class
use Rattle.vd_judge.specs.declared.found.Form.TheVariants as form
use Rattle.vd_judge.specs.declared.found.Found.{Found}
use Rattle.vd_judge.specs.declared.found.Operand.{Operand}
use Rattle.vd_judge.specs.declared.found.Condition.{Condition}
use Rattle.vd_judge.specs.Checked.{fine, unless}
use Rattle.vd_judge.specs.Types.{is_integer, is_scalar, is_unsigned, converts, castable, kind_of}

-- ---- what operands have to be; each disagrees for itself, whatever the other one is

abbrev pub as_integer : Operand → Checked Operand
as_integer o = cond (is_integer o.typ) (fine o) (Untyped (fault.Mismatch o.place Void o.typ))

abbrev pub as_unsigned : Operand → Checked Operand
as_unsigned o = cond (is_unsigned o.typ) (fine o) (Untyped (fault.Mismatch o.place Unsigned o.typ))

-- an integer or a pointer
abbrev pub as_scalar : Operand → Checked Operand
as_scalar o = cond (is_scalar o.typ) (fine o) (Untyped (fault.Mismatch o.place Void o.typ))

-- of two integers in a bit operation one is unsigned, else the first disagrees
abbrev pub wants_bits : Operand → Operand → Option TypeFault
wants_bits a b = cond (is_unsigned a.typ || is_unsigned b.typ) None (Some (fault.Mismatch a.place Unsigned a.typ))

-- a value that has to convert to a type
abbrev pub wants : CType → Operand → Option TypeFault
wants t o = cond (converts o.zero o.typ t) None (Some (fault.Mismatch o.place t o.typ))

abbrev pub wants_cast : CType → Operand → Option TypeFault
wants_cast t o = cond (castable o.zero o.typ t) None (Some (fault.Mismatch o.place t o.typ))

-- one of two values converts to the other's type
abbrev pub comparable : Operand → Operand → Bool
comparable a b = converts a.zero a.typ b.typ || converts b.zero b.typ a.typ

-- where two values disagree with each other the later one has the fault
abbrev pub wants_alike : Operand → Operand → Option TypeFault
wants_alike a b = cond (comparable a b) None (Some (fault.Mismatch b.place a.typ b.typ))

-- ---- one operand

abbrev pub computed : ℕ → CType → TExpr → Found
computed place typ e = record { place = place; typ = typ; form = form.Value e }

abbrev pub opposite : ℕ → Operand → Checked Found
opposite place o = fine (computed place o.typ (Unary prefix.Minus (kind_of o.typ) o.value))

abbrev pub complement : ℕ → Operand → Checked Found
complement place o = fine (computed place Unsigned (Unary prefix.Invert kind.Unsigned o.value))

-- `!` of a pointer test is a pointer test
abbrev pub negation_by : ℕ → ℕ → Cond → Checked Found
negation_by place at (test.Int k e) = fine (computed place Int (Unary prefix.Not k e))
negation_by place at (test.Same a b equal) = fine (record { place = place; typ = Int; form = form.Test at a b (not equal) })

abbrev pub negation : ℕ → Condition → Checked Found
negation place c = negation_by place c.place c.test

-- ---- two operands

-- unsigned where an operand is, else int
abbrev pub common : Operand → Operand → CType
common a b = cond (is_unsigned a.typ || is_unsigned b.typ) Unsigned Int

abbrev pub arithmetic : BinOp → ℕ → Operand × Operand → Checked Found
arithmetic o place p = fine (computed place (common p.0 p.1) (Binary o (kind_of (common p.0 p.1)) p.0.value p.1.value))

abbrev pub bitwise : BinOp → ℕ → Operand × Operand → Checked Found
bitwise o place p = unless (wants_bits p.0 p.1) (computed place Unsigned (Binary o kind.Unsigned p.0.value p.1.value))

abbrev pub shift : BinOp → ℕ → Operand × Operand → Checked Found
shift o place p = fine (computed place Unsigned (Binary o kind.Unsigned p.0.value p.1.value))

abbrev pub comparison : BinOp → ℕ → Operand × Operand → Checked Found
comparison o place p = fine (computed place Int (Binary o (kind_of (common p.0 p.1)) p.0.value p.1.value))

-- of integers an operation, of pointers a test
abbrev pub equality : BinOp → Bool → ℕ → Operand × Operand → Checked Found
equality o equal place p =
    if is_integer p.0.typ && is_integer p.1.typ then comparison o place p
    else unless (wants_alike p.0 p.1) (record { place = place; typ = Int; form = form.Test place p.0.value p.1.value equal })

-- how an operator takes its operands
abbrev pub class_of : BinOp → Class
class_of op.Add = class.Arithmetic
class_of op.Sub = class.Arithmetic
class_of op.Mul = class.Arithmetic
class_of op.Div = class.Arithmetic
class_of op.Rem = class.Arithmetic
class_of op.And = class.Bits
class_of op.Or = class.Bits
class_of op.Xor = class.Bits
class_of op.Shl = class.Shift
class_of op.Shr = class.Shift
class_of op.Eq = class.Equality true
class_of op.Ne = class.Equality false
class_of op.Lt = class.Order
class_of op.Le = class.Order
class_of op.Gt = class.Order
class_of op.Ge = class.Order

abbrev pub binary : Class → BinOp → ℕ → Operand × Operand → Checked Found
binary class.Arithmetic o place p = arithmetic o place p
binary class.Bits o place p = bitwise o place p
binary class.Shift o place p = shift o place p
binary class.Order o place p = comparison o place p
binary (class.Equality equal) o place p = equality o equal place p

-- ---- casts

-- a cast changes the type alone
abbrev pub cast : ℕ → CType → Operand → Checked Found
cast place t o = unless (wants_cast t o) (computed place t o.value)
