-- The checker's way of each construct agrees with its rule.
use Rattle.std.proofs.Common.{◌≡◌, ℕ, sym, ap, ◌∙◌, subst}
use Rattle.vd_base.specs.Layout.{Table}
use Rattle.vd_clight.specs.declared.syntax.Expr.{Expr, fold_out-Expr}
use Rattle.vd_clight.specs.declared.syntax.ExprNode.{ExprNode, ExprNode-F, out-ExprNode, fold-ExprNode, fold_out-ExprNode, map-ExprNode}
use Rattle.vd_clight.specs.declared.syntax.ExprNode.TheOpen as node
use Rattle.vd_clight.specs.declared.syntax.UnOp.{UnOp}
use Rattle.vd_clight.specs.declared.syntax.UnOp.TheVariants as prefix
use Rattle.vd_judge.specs.declared.checked.Checked.{Checked}
use Rattle.vd_judge.specs.declared.found.Form.{Form}
use Rattle.vd_judge.specs.declared.found.Form.TheVariants as form
use Rattle.vd_judge.specs.declared.found.Found.{Found}
use Rattle.vd_judge.specs.declared.operation.Class.{Class}
use Rattle.vd_judge.specs.declared.operation.Class.TheVariants as class
use Rattle.vd_judge.specs.Checked.{fine, follows, pair}
use Rattle.vd_judge.specs.Environment.{Environment}
use Rattle.vd_judge.specs.CheckedExpression.{judge_node, judge_layer, judged, operand_of, truth_of, condition_by, as_condition, condition_of, left_side, integer_of, unsigned_of, scalar_of, judge_unary, left_of, right_of, pointer_of, elements_of}
use Rattle.vd_judge.specs.Found.{as_operand, truth, as_target}
use Rattle.vd_judge.specs.Operation.{as_integer, as_unsigned, as_scalar, opposite, complement, negation, class_of, binary, cast}
use Rattle.vd_judge.specs.Place.{number, variable, sized, aligned, dot, as_pointer, as_elements, arrow, element, pointed, address}
use Rattle.vd_judge.specs.Rule.{Rule, says, expression, rests, beside}
use Rattle.vd_judge.specs.Rules.{a_value, an_integer, an_unsigned, a_scalar, a_pointer, an_array, by_value, tested_form, a_condition, a_target, value_of, unary_rule, left_operand, right_operand, node_rule, expression_rule}
use Rattle.vd_judge.specs.Sort.{Sort, Meaning}
use Rattle.vd_judge.specs.Sort as sort
use Rattle.vd_judge.proofs.Agreement.{Agrees, agrees_says, agrees_rests, agrees_both, agrees_expression}

module _ (env : Environment) where
  -- what is said of a part
  pub said_on : {s t : Sort} (r : Rule s) (c : Checked (Meaning s)) (d : Meaning s → Checked (Meaning t)) → Agrees env r c → Agrees env (rests r (λ x. says (d x))) (follows c d)
  said_on r c d a = agrees_rests env r (λ x. says (d x)) d (λ x. agrees_says env (d x)) c a

  -- what is said of two parts
  pub said_of_both : {s t u : Sort} (r : Rule s) (q : Rule t) (a : Checked (Meaning s)) (b : Checked (Meaning t)) (d : Meaning s × Meaning t → Checked (Meaning u))
      → Agrees env r a → Agrees env q b → Agrees env (rests (beside r q) (λ p. says (d p))) (follows (pair a b) d)
  said_of_both r q a b d one two = said_on (beside r q) (pair a b) d (agrees_both env r q a b one two)

  -- ---- an expression as something

  module _ (r : Rule sort.found) (c : Checked Found) (a : Agrees env r c) where
    pub value : Agrees env (a_value r) (operand_of c)
    value = said_on r c as_operand a

    pub integer : Agrees env (an_integer r) (integer_of c)
    integer = said_on (a_value r) (operand_of c) as_integer value

    pub unsigned : Agrees env (an_unsigned r) (unsigned_of c)
    unsigned = said_on (a_value r) (operand_of c) as_unsigned value

    pub scalar : Agrees env (a_scalar r) (scalar_of c)
    scalar = said_on (a_value r) (operand_of c) as_scalar value

    pub pointer : Agrees env (a_pointer r) (pointer_of c)
    pointer = said_on (a_value r) (operand_of c) as_pointer value

    pub array : (structs : Table) → Agrees env (an_array structs r) (elements_of structs c)
    array structs = said_on (a_pointer r) (pointer_of c) (as_elements structs) pointer

    pub target : Agrees env (a_target r) (left_side c)
    target = said_on r c as_target a

    pub left : (k : Class) → Agrees env (left_operand k r) (left_of k c)
    left class.Arithmetic = integer
    left class.Bits = integer
    left class.Shift = unsigned
    left class.Order = integer
    left (class.Equality equal) = scalar

    pub right : (k : Class) → Agrees env (right_operand k r) (right_of k c)
    right class.Arithmetic = integer
    right class.Bits = integer
    right class.Shift = integer
    right class.Order = integer
    right (class.Equality equal) = scalar

  truth_agrees : (x : Found) → Agrees env (by_value x) (truth_of x)
  truth_agrees x = said_on (value_of x) (as_operand x) truth (agrees_says env (as_operand x))

  test_agrees : (x : Found) (f : Form) → Agrees env (tested_form x f) (condition_by x f)
  test_agrees x form.Zero = truth_agrees x
  test_agrees x (form.Value e) = truth_agrees x
  test_agrees x (form.Temporary k) = truth_agrees x
  test_agrees x (form.Memory l) = truth_agrees x
  test_agrees x (form.Test at a b equal) = agrees_says env (condition_by x (form.Test at a b equal))

  pub condition : (r : Rule sort.found) (c : Checked Found) → Agrees env r c → Agrees env (a_condition r) (condition_of c)
  condition r c a = agrees_rests env r (λ x. tested_form x x.form) as_condition (λ x. test_agrees x x.form) c a

  -- ---- expressions

  unary : (o : UnOp) (place : ℕ) (r : Rule sort.found) (c : Checked Found) → Agrees env r c → Agrees env (unary_rule o place r) (judge_unary o place c)
  unary prefix.Minus place r c a = said_on (an_integer r) (integer_of c) (opposite place) (integer r c a)
  unary prefix.Not place r c a = said_on (a_condition r) (condition_of c) (negation place) (condition r c a)
  unary prefix.Invert place r c a = said_on (an_unsigned r) (unsigned_of c) (complement place) (unsigned r c a)

  abbrev pub Judged : Expr → Type 0
  Judged e = Agrees env (expression e) (judged env e)

  abbrev pub judged_node : ExprNode → ℕ → Checked Found
  judged_node = fold-ExprNode (ℕ → Checked Found) (Checked Found) (judge_node env) judge_layer

  abbrev pub opened : ExprNode-F ExprNode Expr → ExprNode-F (ℕ → Checked Found) (Checked Found)
  opened l = map-ExprNode ExprNode Expr (ℕ → Checked Found) (Checked Found) judged_node (judged env) l

  judged_is : (e : Expr) → judged env e ≡ judge_node env (opened (out-ExprNode e.node)) e.place
  unfolding judged
  judged_is e = fold_out-Expr (ℕ → Checked Found) (Checked Found) (judge_node env) judge_layer e ∙ ap (λ n. n e.place) (fold_out-ExprNode (ℕ → Checked Found) (Checked Found) (judge_node env) judge_layer e.node)

  -- what holds of the parts of an expression
  abbrev pub Parts : ExprNode-F ExprNode Expr → Type 0
  Parts (node.Num n u) = Unit {0}
  Parts (node.Ident name) = Unit {0}
  Parts (node.Unary o a) = Judged a
  Parts (node.Binary o a b) = Judged a × Judged b
  Parts (node.Cast t a) = Judged a
  Parts (node.SizeOf t) = Unit {0}
  Parts (node.AlignOf t) = Unit {0}
  Parts (node.Field a f) = Judged a
  Parts (node.Arrow a f) = Judged a
  Parts (node.Index a i) = Judged a × Judged i
  Parts (node.Deref a) = Judged a
  Parts (node.AddressOf a) = Judged a

  node_agrees : (l : ExprNode-F ExprNode Expr) (place : ℕ) → Parts l → Agrees env (node_rule env l place) (judge_node env (opened l) place)
  node_agrees (node.Num n u) place p = agrees_says env (fine (number place n u))
  node_agrees (node.Ident name) place p = agrees_says env (variable env place name)
  node_agrees (node.Unary o a) place p = unary o place (expression a) (judged env a) p
  node_agrees (node.Binary o a b) place p =
      said_of_both (left_operand (class_of o) (expression a)) (right_operand (class_of o) (expression b)) (left_of (class_of o) (judged env a)) (right_of (class_of o) (judged env b)) (binary (class_of o) o place)
      (left (expression a) (judged env a) p.0 (class_of o)) (right (expression b) (judged env b) p.1 (class_of o))
  node_agrees (node.Cast t a) place p = said_on (a_value (expression a)) (operand_of (judged env a)) (cast place t) (value (expression a) (judged env a) p)
  node_agrees (node.SizeOf t) place p = agrees_says env (sized env.structs place t)
  node_agrees (node.AlignOf t) place p = agrees_says env (aligned env.structs place t)
  node_agrees (node.Field a f) place p = said_on (expression a) (judged env a) (dot env.structs place f) p
  node_agrees (node.Arrow a f) place p = said_on (a_pointer (expression a)) (pointer_of (judged env a)) (arrow env.structs place f) (pointer (expression a) (judged env a) p)
  node_agrees (node.Index a i) place p =
      said_of_both (an_array env.structs (expression a)) (an_integer (expression i)) (elements_of env.structs (judged env a)) (integer_of (judged env i)) (element place)
      (array (expression a) (judged env a) p.0 env.structs) (integer (expression i) (judged env i) p.1)
  node_agrees (node.Deref a) place p = said_on (a_pointer (expression a)) (pointer_of (judged env a)) (pointed place) (pointer (expression a) (judged env a) p)
  node_agrees (node.AddressOf a) place p = said_on (expression a) (judged env a) (address place) p

  -- an expression agrees whose parts do
  pub judged_step : (e : Expr) → Parts (out-ExprNode e.node) → Judged e
  judged_step e p = agrees_expression env e (judged env e) (subst (Agrees env (expression_rule env e)) (sym (judged_is e)) (node_agrees (out-ExprNode e.node) e.place p))
