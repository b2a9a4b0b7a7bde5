-- The checker's way of expressions: one pass over the parts, which keeps the type of a part that is typed and its first fault. The laws of `Typing` say that this way answers what the rules say.
use Rattle.std.specs.Prelude.{ℕ}
use Rattle.vd_base.specs.declared.ctype.CType.{CType}
use Rattle.vd_base.specs.Layout.{Table}
use Rattle.vd_clight.specs.declared.syntax.BinOp.{BinOp}
use Rattle.vd_clight.specs.declared.syntax.Expr.{Expr, Expr-F, fold-Expr}
use Rattle.vd_clight.specs.declared.syntax.ExprNode.{ExprNode-F}
use Rattle.vd_clight.specs.declared.syntax.ExprNode.TheOpen as node
use Rattle.vd_clight.specs.declared.syntax.UnOp.{UnOp}
use Rattle.vd_clight.specs.declared.syntax.UnOp.TheVariants as prefix
use Rattle.vd_clight.specs.declared.typed.Cond.TheVariants as test
use Rattle.vd_judge.specs.declared.checked.Checked.{Checked}
use Rattle.vd_judge.specs.declared.found.Condition.{Condition}
use Rattle.vd_judge.specs.declared.found.Form.{Form}
use Rattle.vd_judge.specs.declared.found.Form.TheVariants as form
use Rattle.vd_judge.specs.declared.found.Found.{Found}
use Rattle.vd_judge.specs.declared.found.Operand.{Operand}
use Rattle.vd_judge.specs.declared.found.Target.{Target}
use Rattle.vd_judge.specs.declared.operation.Class.{Class}
use Rattle.vd_judge.specs.declared.operation.Class.TheVariants as class
use Rattle.vd_judge.specs.declared.place.Pointer.{Pointer}
use Rattle.vd_judge.specs.Checked.{fine, follows, pair}
use Rattle.vd_judge.specs.Environment.{Environment}
use Rattle.vd_judge.specs.Found.{as_operand, truth, as_target}
use Rattle.vd_judge.specs.Operation.{as_integer, as_unsigned, as_scalar, opposite, complement, negation, class_of, binary, cast}
use Rattle.vd_judge.specs.Place.{number, variable, sized, aligned, dot, as_pointer, as_elements, arrow, element, pointed, address}

-- ---- an expression as something

abbrev pub operand_of : Checked Found → Checked Operand
operand_of part = follows part as_operand

abbrev pub integer_of : Checked Found → Checked Operand
integer_of part = follows (operand_of part) as_integer

abbrev pub unsigned_of : Checked Found → Checked Operand
unsigned_of part = follows (operand_of part) as_unsigned

abbrev pub scalar_of : Checked Found → Checked Operand
scalar_of part = follows (operand_of part) as_scalar

abbrev pub pointer_of : Checked Found → Checked Pointer
pointer_of part = follows (operand_of part) as_pointer

-- a pointer to elements
abbrev pub elements_of : Table → Checked Found → Checked Pointer
elements_of structs part = follows (pointer_of part) (as_elements structs)

abbrev pub truth_of : Found → Checked Condition
truth_of f = follows (as_operand f) truth

abbrev pub condition_by : Found → Form → Checked Condition
condition_by f form.Zero = truth_of f
condition_by f (form.Value e) = truth_of f
condition_by f (form.Temporary x) = truth_of f
condition_by f (form.Memory l) = truth_of f
condition_by f (form.Test at a b equal) = fine (record { place = at; test = test.Same a b equal })

-- an expression that is tested
abbrev pub as_condition : Found → Checked Condition
as_condition f = condition_by f f.form

abbrev pub condition_of : Checked Found → Checked Condition
condition_of part = follows part as_condition

abbrev pub left_side : Checked Found → Checked Target
left_side part = follows part as_target

-- ---- expressions

abbrev pub judge_unary : UnOp → ℕ → Checked Found → Checked Found
judge_unary prefix.Minus place part = follows (integer_of part) (opposite place)
judge_unary prefix.Not place part = follows (condition_of part) (negation place)
judge_unary prefix.Invert place part = follows (unsigned_of part) (complement place)

abbrev pub left_of : Class → Checked Found → Checked Operand
left_of class.Arithmetic part = integer_of part
left_of class.Bits part = integer_of part
left_of class.Shift part = unsigned_of part
left_of class.Order part = integer_of part
left_of (class.Equality equal) part = scalar_of part

abbrev pub right_of : Class → Checked Found → Checked Operand
right_of class.Arithmetic part = integer_of part
right_of class.Bits part = integer_of part
right_of class.Shift part = integer_of part
right_of class.Order part = integer_of part
right_of (class.Equality equal) part = scalar_of part

abbrev pub judge_binary : BinOp → ℕ → Checked Found → Checked Found → Checked Found
judge_binary o place left right = follows (pair (left_of (class_of o) left) (right_of (class_of o) right)) (binary (class_of o) o place)

abbrev pub judge_cast : ℕ → CType → Checked Found → Checked Found
judge_cast place t part = follows (operand_of part) (cast place t)

-- what an expression at a place denotes, over its parts
abbrev pub judge_node : Environment → ExprNode-F (ℕ → Checked Found) (Checked Found) → ℕ → Checked Found
judge_node env (node.Num n unsigned) place = fine (number place n unsigned)
judge_node env (node.Ident name) place = variable env place name
judge_node env (node.Unary o a) place = judge_unary o place a
judge_node env (node.Binary o a b) place = judge_binary o place a b
judge_node env (node.Cast t a) place = judge_cast place t a
judge_node env (node.SizeOf t) place = sized env.structs place t
judge_node env (node.AlignOf t) place = aligned env.structs place t
judge_node env (node.Field a f) place = follows a (dot env.structs place f)
judge_node env (node.Arrow a f) place = follows (pointer_of a) (arrow env.structs place f)
judge_node env (node.Index a i) place = follows (pair (elements_of env.structs a) (integer_of i)) (element place)
judge_node env (node.Deref a) place = follows (pointer_of a) (pointed place)
judge_node env (node.AddressOf a) place = follows a (address place)

abbrev pub judge_layer : Expr-F (ℕ → Checked Found) (Checked Found) → Checked Found
judge_layer e = e.node e.place

-- what an expression denotes, or its first fault
unfoldable pub judged : Environment → Expr → Checked Found
judged env = fold-Expr (ℕ → Checked Found) (Checked Found) (judge_node env) judge_layer
