-- Plain code, by its outermost layer.
use Rattle.std.proofs.Common.{◌≡◌, ℕ, List, map, Option}
use Rattle.std.specs.Option.{option_map}
use Rattle.vd_base.specs.declared.name.Name.{Name}
use Rattle.vd_clight.specs.declared.syntax.UnOp.{UnOp}
use Rattle.vd_clight.specs.declared.syntax.BinOp.{BinOp}
use Rattle.vd_clight.specs.declared.typed.Kind.{Kind}
use Rattle.vd_clight.specs.declared.typed.LockOp.{LockOp}
use Rattle.vd_clight.specs.declared.typed.Lval.{Lval}
use Rattle.vd_clight.specs.declared.typed.Cond.{Cond}
use Rattle.vd_clight.specs.declared.typed.TExpr as typed
use Rattle.vd_clight.specs.declared.typed.TExpr.{TExpr, fold_out-TExpr}
use Rattle.vd_clight.specs.declared.typed.Part.TheViews.{outs-Const, outs-Temp, outs-Addr, outs-Unary, outs-Binary}
use Rattle.vd_clight.specs.declared.typed.TStmt as code
use Rattle.vd_clight.specs.declared.typed.TStmt.{TStmt, fold_out-TStmt}
use Rattle.vd_clight.specs.declared.typed.TStmt.TheViews as views
use Rattle.vd_steps.specs.Code as c
use Rattle.vd_steps.specs.PlainCode.{plain_expression, plain_place, plain_condition, plain_statement, plain_statements}
use Rattle.vd_steps.specs.CodeLaws.{PlainExpressions, PlainStatements}

pub expression-Const : (n : ℕ) → plain_expression (typed.Const n) ≡ c.Const n
unfolding plain_expression
expression-Const n = rw (fold_out-TExpr _ _ _ _ _ _ (typed.Const n), outs-Const n)

pub expression-Temp : (x : ℕ) → plain_expression (typed.Temp x) ≡ c.Temp x
unfolding plain_expression
expression-Temp x = rw (fold_out-TExpr _ _ _ _ _ _ (typed.Temp x), outs-Temp x)

pub expression-Addr : (l : Lval) → plain_expression (typed.Addr l) ≡ c.Address (plain_place l).0 (plain_place l).1
unfolding plain_expression plain_place
expression-Addr l = rw (fold_out-TExpr _ _ _ _ _ _ (typed.Addr l), outs-Addr l)

pub expression-Unary : (o : UnOp) (k : Kind) (e : TExpr) → plain_expression (typed.Unary o k e) ≡ c.Unary o k (plain_expression e)
unfolding plain_expression
expression-Unary o k e = rw (fold_out-TExpr _ _ _ _ _ _ (typed.Unary o k e), outs-Unary o k e)

pub expression-Binary : (o : BinOp) (k : Kind) (d e : TExpr) → plain_expression (typed.Binary o k d e) ≡ c.Binary o k (plain_expression d) (plain_expression e)
unfolding plain_expression
expression-Binary o k d e = rw (fold_out-TExpr _ _ _ _ _ _ (typed.Binary o k d e), outs-Binary o k d e)

pub statement-Skip : plain_statement code.Skip ≡ c.Skip
unfolding plain_statement
statement-Skip = rw (fold_out-TStmt _ _ code.Skip, views.outs-Skip)

pub statement-Set : (x : ℕ) (e : TExpr) → plain_statement (code.Set x e) ≡ c.Set x (plain_expression e)
unfolding plain_statement
statement-Set x e = rw (fold_out-TStmt _ _ (code.Set x e), views.outs-Set x e)

pub statement-Load : (x : ℕ) (l : Lval) → plain_statement (code.Load x l) ≡ c.Load x (plain_place l).0 (plain_place l).1
unfolding plain_statement
statement-Load x l = rw (fold_out-TStmt _ _ (code.Load x l), views.outs-Load x l)

pub statement-Store : (l : Lval) (e : TExpr) → plain_statement (code.Store l e) ≡ c.Store (plain_place l).0 (plain_place l).1 (plain_expression e)
unfolding plain_statement
statement-Store l e = rw (fold_out-TStmt _ _ (code.Store l e), views.outs-Store l e)

pub statement-Call : (x : Option ℕ) (f : Name) (es : List TExpr) → plain_statement (code.Call x f es) ≡ c.Call x f (map plain_expression es)
unfolding plain_statement
statement-Call x f es = rw (fold_out-TStmt _ _ (code.Call x f es), views.outs-Call x f es)

pub statement-Malloc : (x n : ℕ) → plain_statement (code.Malloc x n) ≡ c.Malloc x n
unfolding plain_statement
statement-Malloc x n = rw (fold_out-TStmt _ _ (code.Malloc x n), views.outs-Malloc x n)

pub statement-Free : (e : TExpr) → plain_statement (code.Free e) ≡ c.Free (plain_expression e)
unfolding plain_statement
statement-Free e = rw (fold_out-TStmt _ _ (code.Free e), views.outs-Free e)

pub statement-Lock : (o : LockOp) (e : TExpr) → plain_statement (code.Lock o e) ≡ c.OnLock o (plain_expression e)
unfolding plain_statement
statement-Lock o e = rw (fold_out-TStmt _ _ (code.Lock o e), views.outs-Lock o e)

pub statement-Spawn : (f : Name) (e : TExpr) → plain_statement (code.Spawn f e) ≡ c.Spawn f (plain_expression e)
unfolding plain_statement
statement-Spawn f e = rw (fold_out-TStmt _ _ (code.Spawn f e), views.outs-Spawn f e)

pub statement-If : (d : Cond) (a b : List TStmt) → plain_statement (code.If d a b) ≡ c.If (plain_condition d) (plain_statements a) (plain_statements b)
unfolding plain_statement
statement-If d a b = rw (fold_out-TStmt _ _ (code.If d a b), views.outs-If d a b)

pub statement-Loop : (a : List TStmt) → plain_statement (code.Loop a) ≡ c.Loop (plain_statements a)
unfolding plain_statement
statement-Loop a = rw (fold_out-TStmt _ _ (code.Loop a), views.outs-Loop a)

pub statement-Break : plain_statement code.Break ≡ c.Break
unfolding plain_statement
statement-Break = rw (fold_out-TStmt _ _ code.Break, views.outs-Break)

pub statement-Continue : plain_statement code.Continue ≡ c.Continue
unfolding plain_statement
statement-Continue = rw (fold_out-TStmt _ _ code.Continue, views.outs-Continue)

pub statement-Return : (e : Option TExpr) → plain_statement (code.Return e) ≡ c.Return (option_map plain_expression e)
unfolding plain_statement
statement-Return e = rw (fold_out-TStmt _ _ (code.Return e), views.outs-Return e)

pub plain_expressions : PlainExpressions
plain_expressions = record {
  constant = expression-Const;
  temporary = expression-Temp;
  address = expression-Addr;
  unary = expression-Unary;
  binary = expression-Binary;
}

pub plain_statements_are : PlainStatements
plain_statements_are = record {
  skip = statement-Skip;
  set = statement-Set;
  load = statement-Load;
  store = statement-Store;
  call = statement-Call;
  malloc = statement-Malloc;
  free = statement-Free;
  lock = statement-Lock;
  spawn = statement-Spawn;
  branch = statement-If;
  loop = statement-Loop;
  break = statement-Break;
  continue = statement-Continue;
  return = statement-Return;
}
