-- What the typed code of `vd_clight` stands for.
use Rattle.std.specs.Prelude.{List, [], ◌∷◌, map}
use Rattle.std.specs.Option.{option_map}
use Rattle.vd_clight.specs.declared.typed.Root.{Root}
use Rattle.vd_clight.specs.declared.typed.Part.{Part-F}
use Rattle.vd_clight.specs.declared.typed.Part.TheOpen as expression
use Rattle.vd_clight.specs.declared.typed.TExpr.{TExpr, TExpr-F, fold-TExpr}
use Rattle.vd_clight.specs.declared.typed.Lval.{Lval, Lval-F, fold-Lval}
use Rattle.vd_clight.specs.declared.typed.Cond as condition_type
use Rattle.vd_clight.specs.declared.typed.Cond.TheVariants as condition
use Rattle.vd_clight.specs.declared.typed.TStmt.{TStmt, TStmt-F, fold-TStmt}
use Rattle.vd_clight.specs.declared.typed.TStmt.TheOpen as statement
use Rattle.vd_clight.specs.declared.typed.TypedFn.{TypedFn}
use Rattle.vd_steps.specs.Code as c
use Rattle.vd_steps.specs.Code.{Expr, Path, Cond, Stmt, Stmts, Function}

-- a step in front of a path
abbrev pub Further : Type 0
Further = Path → Path

abbrev pub part_layer : Part-F Further Expr (Root × Path) → Further
part_layer (expression.Offset n) = c.Offset n
part_layer (expression.Index k e) = c.Index k e

abbrev pub expression_layer : TExpr-F Further Expr (Root × Path) → Expr
expression_layer (expression.Const n) = c.Const n
expression_layer (expression.Temp x) = c.Temp x
expression_layer (expression.Addr l) = c.Address l.0 l.1
expression_layer (expression.Unary o k e) = c.Unary o k e
expression_layer (expression.Binary o k d e) = c.Binary o k d e

abbrev pub path_of : List Further → Path
path_of [] = c.Here
path_of (f ∷ fs) = f (path_of fs)

abbrev pub place_layer : Lval-F Further Expr (Root × Path) → Root × Path
place_layer l = (l.root, path_of l.path)

-- the plain expression of an expression
unfoldable pub plain_expression : TExpr → Expr
plain_expression = fold-TExpr Further Expr (Root × Path) part_layer expression_layer place_layer

-- the root and the path of a place
unfoldable pub plain_place : Lval → Root × Path
plain_place = fold-Lval Further Expr (Root × Path) part_layer expression_layer place_layer

abbrev pub plain_condition : condition_type.Cond → Cond
plain_condition (condition.Int k e) = c.Nonzero k (plain_expression e)
plain_condition (condition.Same d e flag) = c.Pointers (plain_expression d) (plain_expression e) flag

abbrev pub statements_of : List Stmt → Stmts
statements_of [] = c.End
statements_of (x ∷ xs) = c.Then x (statements_of xs)

abbrev pub statement_layer : TStmt-F Stmt → Stmt
statement_layer statement.Skip = c.Skip
statement_layer (statement.Set x e) = c.Set x (plain_expression e)
statement_layer (statement.Load x l) = c.Load x (plain_place l).0 (plain_place l).1
statement_layer (statement.Store l e) = c.Store (plain_place l).0 (plain_place l).1 (plain_expression e)
statement_layer (statement.Call x f es) = c.Call x f (map plain_expression es)
statement_layer (statement.Malloc x n) = c.Malloc x n
statement_layer (statement.Free e) = c.Free (plain_expression e)
statement_layer (statement.Lock o e) = c.OnLock o (plain_expression e)
statement_layer (statement.Spawn f e) = c.Spawn f (plain_expression e)
statement_layer (statement.If d a b) = c.If (plain_condition d) (statements_of a) (statements_of b)
statement_layer (statement.Loop a) = c.Loop (statements_of a)
statement_layer statement.Break = c.Break
statement_layer statement.Continue = c.Continue
statement_layer (statement.Return e) = c.Return (option_map plain_expression e)

-- the plain statement of a statement
unfoldable pub plain_statement : TStmt → Stmt
plain_statement = fold-TStmt Stmt statement_layer

abbrev pub plain_statements : List TStmt → Stmts
plain_statements ss = statements_of (map plain_statement ss)

abbrev pub plain_function : TypedFn → Function
plain_function f = record { temps = f.temps; body = plain_statements f.body }
