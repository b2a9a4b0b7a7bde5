-- What an expression is where a value, a condition or a target is wanted.
use Rattle.std.specs.Prelude.{ℕ, true, false, Option, None, Some, if◌then◌else◌}
use Rattle.vd_base.specs.declared.ctype.CType.{CType, Void, Pointer}
use Rattle.vd_clight.specs.declared.typed.Cond.TheVariants as test
use Rattle.vd_clight.specs.declared.typed.Lval.{Lval}
use Rattle.vd_clight.specs.declared.typed.TExpr.{Const, Temp, Addr}
use Rattle.vd_judge.specs.declared.fault.TypeFault.TheVariants as fault
use Rattle.vd_judge.specs.declared.checked.Checked.{Checked}
use Rattle.vd_judge.specs.declared.checked.Checked.TheVariants.{Typed, Untyped}
use Rattle.vd_judge.specs.declared.found.Form.{Form}
use Rattle.vd_judge.specs.declared.found.Form.TheVariants as form
use Rattle.vd_judge.specs.declared.found.Found.{Found}
use Rattle.vd_judge.specs.declared.found.Operand.{Operand}
use Rattle.vd_judge.specs.declared.found.Condition.{Condition}
use Rattle.vd_judge.specs.declared.found.Destination.TheVariants as to
use Rattle.vd_judge.specs.declared.found.Target.{Target}
use Rattle.vd_judge.specs.Checked.{fine}
use Rattle.vd_judge.specs.Types.{element_of, is_integer, is_pointer, is_scalar, kind_of}

-- ---- values

abbrev pub pointer_to : CType → CType
pointer_to t = Pointer t

-- what stands for the value of an expression of a type but without a normal form; the fault goes with it, so no typed function has it
abbrev pub stands_for : ℕ → ℕ → CType → Checked Operand
stands_for place at typ = Typed (record { place = place; typ = typ; zero = false; value = Temp 0 }) (Some (fault.NotNormal at))

-- an array's value is the address of its first element; any other place is read, and so is not normal as a part
abbrev pub read_by : ℕ → CType → Lval → Option CType → Checked Operand
read_by place typ l None = stands_for place place typ
read_by place typ l (Some element) = fine (record { place = place; typ = pointer_to element; zero = false; value = Addr l })

abbrev pub read : ℕ → CType → Lval → Checked Operand
read place typ l = read_by place typ l (element_of typ)

abbrev pub value_by : ℕ → CType → Form → Checked Operand
value_by place typ form.Zero = fine (record { place = place; typ = typ; zero = true; value = Const 0 })
value_by place typ (form.Value e) = fine (record { place = place; typ = typ; zero = false; value = e })
value_by place typ (form.Temporary x) = fine (record { place = place; typ = typ; zero = false; value = Temp x })
value_by place typ (form.Memory l) = read place typ l
value_by place typ (form.Test at a b equal) = stands_for place at typ

-- an expression whose value is wanted
abbrev pub as_operand : Found → Checked Operand
as_operand f = value_by f.place f.typ f.form

-- ---- conditions

-- an integer is compared with 0, and a pointer with null
abbrev pub truth : Operand → Checked Condition
truth o =
    if is_integer o.typ then fine (record { place = o.place; test = test.Int (kind_of o.typ) o.value })
    else if is_pointer o.typ then fine (record { place = o.place; test = test.Same o.value (Const 0) false })
    else Untyped (fault.Mismatch o.place Void o.typ)

-- ---- targets

-- a place in memory to which a value goes: it has one cell
abbrev pub stored : ℕ → CType → Lval → Checked Target
stored place typ l = if is_scalar typ then fine (record { place = place; typ = typ; to = to.Memory l }) else Untyped (fault.Mismatch place Void typ)

abbrev pub target_by : ℕ → CType → Form → Checked Target
target_by place typ form.Zero = Untyped (fault.Mismatch place Void typ)
target_by place typ (form.Value e) = Untyped (fault.Mismatch place Void typ)
target_by place typ (form.Temporary x) = fine (record { place = place; typ = typ; to = to.Temporary x })
target_by place typ (form.Memory l) = stored place typ l
target_by place typ (form.Test at a b equal) = Untyped (fault.Mismatch place Void typ)

-- an expression to which a value goes: a temporary, or a place in memory
abbrev pub as_target : Found → Checked Target
as_target f = target_by f.place f.typ f.form
