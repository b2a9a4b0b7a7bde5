-- Every expression is judged as its rule says.
use Rattle.std.proofs.Common.{◌≡◌, sym, subst}
use Rattle.vd_clight.specs.declared.syntax.Expr.{Expr, Expr-F, ind-Expr, roll-Expr, out-roll-Expr, map-Expr}
use Rattle.vd_clight.specs.declared.syntax.ExprNode.{ExprNode, ExprNode-F, roll-ExprNode, out-ExprNode, out-roll-ExprNode, map-ExprNode}
use Rattle.vd_clight.specs.declared.syntax.ExprNode.TheOpen as node
use Rattle.vd_judge.specs.Environment.{Environment}
use Rattle.vd_judge.proofs.Agreeing.{Judged, Parts, judged_step}

module _ (env : Environment) where
  abbrev NodeJudged : ExprNode → Type 0
  NodeJudged n = Parts env (out-ExprNode n)

  abbrev JudgedNode : Type 0
  JudgedNode = (n : ExprNode) × NodeJudged n

  abbrev JudgedExpr : Type 0
  JudgedExpr = (e : Expr) × Judged env e

  parts_of : (y : ExprNode-F JudgedNode JudgedExpr) → Parts env (map-ExprNode JudgedNode JudgedExpr ExprNode Expr (λ n. n.0) (λ e. e.0) y)
  parts_of (node.Num n u) = tt
  parts_of (node.Ident name) = tt
  parts_of (node.Unary o a) = a.1
  parts_of (node.Binary o a b) = (a.1, b.1)
  parts_of (node.Cast t a) = a.1
  parts_of (node.SizeOf t) = tt
  parts_of (node.AlignOf t) = tt
  parts_of (node.Field a f) = a.1
  parts_of (node.Arrow a f) = a.1
  parts_of (node.Index a i) = (a.1, i.1)
  parts_of (node.Deref a) = a.1
  parts_of (node.AddressOf a) = a.1

  node_judged : (x : ExprNode-F ExprNode Expr) (y : ExprNode-F JudgedNode JudgedExpr) → map-ExprNode JudgedNode JudgedExpr ExprNode Expr (λ n. n.0) (λ e. e.0) y ≡ x → NodeJudged (roll-ExprNode x)
  node_judged x y is = subst (Parts env) (sym (out-roll-ExprNode x)) (subst (Parts env) is (parts_of y))

  rolled : (x : Expr-F ExprNode Expr) → NodeJudged x.node → Judged env (roll-Expr x)
  rolled x p = judged_step env (roll-Expr x) (subst (λ z. NodeJudged z.node) (sym (out-roll-Expr x)) p)

  expr_judged : (x : Expr-F ExprNode Expr) (y : Expr-F JudgedNode JudgedExpr) → map-Expr JudgedNode JudgedExpr ExprNode Expr (λ n. n.0) (λ e. e.0) y ≡ x → Judged env (roll-Expr x)
  expr_judged x y is = rolled x (subst (λ z. NodeJudged z.node) is y.node.1)

  pub judged_agrees : (e : Expr) → Judged env e
  judged_agrees e = ind-Expr NodeJudged (Judged env) node_judged expr_judged e
