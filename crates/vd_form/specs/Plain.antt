-- What the form allows, of what was read.
use Rattle.std.specs.Prelude.{◌&&◌, ◌==◌, ℕ, pos, Bool, true, false, not, List, [], ◌∷◌, length, nat_le, Some}
use Rattle.std.specs.List.{list_all}
use Rattle.vd_base.specs.declared.ctype.CType.{CType, CType-F, out-CType}
use Rattle.vd_base.specs.declared.ctype.CType.TheOpen as typ
use Rattle.vd_base.specs.declared.ctype.Field.{Field}
use Rattle.vd_clight.specs.declared.syntax.BinOp.TheVariants as operator
use Rattle.vd_clight.specs.declared.syntax.Expr.{Expr, Expr-F, fold-Expr}
use Rattle.vd_clight.specs.declared.syntax.ExprNode.{ExprNode-F}
use Rattle.vd_clight.specs.declared.syntax.ExprNode.TheOpen as node
use Rattle.vd_clight.specs.declared.syntax.FnText.{FnText}
use Rattle.vd_clight.specs.declared.syntax.Stmt.{Stmt}
use Rattle.vd_clight.specs.declared.syntax.StmtNode.{StmtNode, StmtNode-F, out-StmtNode}
use Rattle.vd_clight.specs.declared.syntax.StmtNode.TheOpen as statement
use Rattle.vd_logic.specs.declared.assertion.Assertion.{Assertion}
use Rattle.vd_logic.specs.declared.assertion.Prop.{Prop}
use Rattle.vd_logic.specs.declared.assertion.Prop.TheVariants as prop
use Rattle.vd_logic.specs.declared.assertion.Rel.TheVariants as rel
use Rattle.vd_logic.specs.declared.assertion.Spec.{Spec}
use Rattle.vd_logic.specs.declared.step.Step.{Step}
use Rattle.vd_logic.specs.declared.step.StepNode.{StepNode}
use Rattle.vd_logic.specs.declared.step.StepNode.TheVariants as step
use Rattle.vd_logic.specs.declared.term.Op.TheVariants as op
use Rattle.vd_logic.specs.declared.term.Sort.TheVariants as sort
use Rattle.vd_logic.specs.declared.term.Term.{Term, Term-F, out-Term}
use Rattle.vd_logic.specs.declared.term.Term.TheOpen as term

-- ---- functions

abbrev pub is_int_layer : CType-F CType → Bool
is_int_layer typ.Int = true
is_int_layer _ = false

abbrev pub is_int : CType → Bool
is_int t = is_int_layer (out-CType t)

abbrev pub plain_node : ExprNode-F Bool Bool → Bool
plain_node (node.Num n unsigned) = not unsigned
plain_node (node.Ident name) = true
plain_node (node.Binary operator.Add a b) = a && b
plain_node (node.Binary operator.Sub a b) = a && b
plain_node _ = false

abbrev pub plain_layer : Expr-F Bool Bool → Bool
plain_layer e = e.node

-- an expression of numbers without `u`, names, `+` and `-`
unfoldable pub is_plain : Expr → Bool
is_plain = fold-Expr Bool Bool plain_node plain_layer

abbrev pub is_plain_statement_node : StmtNode-F StmtNode Stmt → Bool
is_plain_statement_node (statement.Assign x e) = is_plain x && is_plain e
is_plain_statement_node (statement.Return (Some e)) = is_plain e
is_plain_statement_node _ = false

-- `x = e ;` or `return e ;`
abbrev pub is_plain_statement : Stmt → Bool
is_plain_statement s = is_plain_statement_node (out-StmtNode s.node)

-- how many temporaries a function of the form may have
abbrev pub temporaries_limit : ℕ
temporaries_limit = 999

abbrev pub are_ints : List Field → Bool
are_ints fields = list_all (λ f. is_int f.typ) fields

abbrev pub are_plain : List Stmt → Bool
are_plain body = list_all is_plain_statement body

-- a function without parameters that returns an `int`, all whose temporaries are `int`
abbrev pub is_plain_function : FnText → Bool
is_plain_function f = is_int f.ret && (length f.params == 0 && (nat_le (length f.temps) temporaries_limit && (are_ints f.temps && are_plain f.body)))

-- ---- specifications

abbrev pub is_natural_layer : Term-F Term → Bool
is_natural_layer (term.Num (pos n)) = true
is_natural_layer _ = false

abbrev pub is_number : List Term → Bool
is_number (a ∷ []) = is_natural_layer (out-Term a)
is_number _ = false

abbrev pub is_side_layer : Term-F Term → Bool
is_side_layer (term.Var n sort.Val) = n == 0
is_side_layer (term.App op.Vi args) = is_number args
is_side_layer _ = false

-- `r`, or `vi(n)` of a number
abbrev pub is_side : Term → Bool
is_side t = is_side_layer (out-Term t)

-- an equation of two such terms
abbrev pub is_equation : Prop → Bool
is_equation (prop.Rel rel.Eq a b) = is_side a && is_side b
is_equation _ = false

-- an assertion that says nothing of variables, temporaries and memory
abbrev pub is_pure : Assertion → Bool
is_pure a = length a.opened == 0 && (length a.locals == 0 && length a.items == 0)

abbrev pub are_equations : List Prop → Bool
are_equations props = list_all is_equation props

-- equations alone, and some
abbrev pub is_plain_post : Assertion → Bool
is_plain_post a = is_pure a && (nat_le 1 (length a.props) && are_equations a.props)

-- no variables and an empty precondition; the postcondition has equations alone, and some
abbrev pub is_plain_spec : Spec → Bool
is_plain_spec s =
    is_int s.ret && (length s.params == 0 && (length s.with == 0
    && (is_pure s.pre && (length s.pre.props == 0 && is_plain_post s.post))))

-- ---- scripts

-- `set ;` or `return ( ) ;`
abbrev pub is_plain_step : StepNode → Bool
is_plain_step (step.Set at by) = length at == 0 && length by == 0
is_plain_step (step.Return terms at by) = length terms == 0 && (length at == 0 && length by == 0)
is_plain_step _ = false

abbrev pub are_plain_steps : List Step → Bool
are_plain_steps steps = list_all (λ s. is_plain_step s.node) steps
