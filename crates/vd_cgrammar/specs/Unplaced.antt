-- Syntax without its places.
use Rattle.std.specs.Prelude.{◌≡◌, map, option_map}
use Rattle.vd_clight.specs.declared.syntax.Expr.{Expr, Expr-F, roll-Expr, fold-Expr}
use Rattle.vd_clight.specs.declared.syntax.ExprNode.{ExprNode, ExprNode-F, roll-ExprNode, fold-ExprNode}
use Rattle.vd_clight.specs.declared.syntax.FnText.{FnText}
use Rattle.vd_clight.specs.declared.syntax.Stmt.{Stmt, Stmt-F, roll-Stmt, fold-Stmt}
use Rattle.vd_clight.specs.declared.syntax.StmtNode.{StmtNode, StmtNode-F, fold-StmtNode}
use Rattle.vd_clight.specs.declared.syntax.StmtNode.TheOpen as statement
use Rattle.vd_clight.specs.declared.syntax.StmtNode.TheVariants as s

-- every place is 0
abbrev pub unplaced_layer : Expr-F ExprNode Expr → Expr
unplaced_layer e = roll-Expr (record { place = 0; node = e.node })

abbrev pub unplaced_node_layer : ExprNode-F ExprNode Expr → ExprNode
unplaced_node_layer n = roll-ExprNode n

unfoldable pub unplaced_node : ExprNode → ExprNode
unplaced_node = fold-ExprNode ExprNode Expr unplaced_node_layer unplaced_layer

unfoldable pub unplaced : Expr → Expr
unplaced = fold-Expr ExprNode Expr unplaced_node_layer unplaced_layer

-- the same expression, places apart
abbrev pub SameNode : ExprNode → ExprNode → Type 0
SameNode n m = unplaced_node n ≡ unplaced_node m

-- ---- statements

abbrev pub unplaced_statement_layer : Stmt-F StmtNode Stmt → Stmt
unplaced_statement_layer x = roll-Stmt (record { place = 0; node = x.node })

abbrev pub unplaced_statement_node_layer : StmtNode-F StmtNode Stmt → StmtNode
unplaced_statement_node_layer statement.Skip = s.Skip
unplaced_statement_node_layer (statement.Assign d e) = s.Assign (unplaced d) (unplaced e)
unplaced_statement_node_layer (statement.Call to f es) = s.Call (option_map unplaced to) f (map unplaced es)
unplaced_statement_node_layer (statement.If e a b) = s.If (unplaced e) a b
unplaced_statement_node_layer (statement.While e a) = s.While (unplaced e) a
unplaced_statement_node_layer statement.Break = s.Break
unplaced_statement_node_layer statement.Continue = s.Continue
unplaced_statement_node_layer (statement.Return e) = s.Return (option_map unplaced e)

unfoldable pub unplaced_statement_node : StmtNode → StmtNode
unplaced_statement_node = fold-StmtNode StmtNode Stmt unplaced_statement_node_layer unplaced_statement_layer

unfoldable pub unplaced_statement : Stmt → Stmt
unplaced_statement = fold-Stmt StmtNode Stmt unplaced_statement_node_layer unplaced_statement_layer

-- the same statement, places apart
abbrev pub SameStatement : Stmt → Stmt → Type 0
SameStatement a b = unplaced_statement a ≡ unplaced_statement b

-- ---- functions

-- a function whose every place is 0
abbrev pub unplaced_function : FnText → FnText
unplaced_function f = record { ret = f.ret; name = f.name; params = f.params; temps = f.temps; body = map unplaced_statement f.body }

-- the same function, places apart
abbrev pub SameFunction : FnText → FnText → Type 0
SameFunction f g = unplaced_function f ≡ unplaced_function g
