-- What is true of plain code: each kind of expression and of statement stands for its own.
use Rattle.std.specs.Prelude.{◌≡◌, ℕ, List, map, Option}
use Rattle.std.specs.Option.{option_map}
use Rattle.vd_base.specs.declared.name.Name.{Name}
use Rattle.vd_clight.specs.declared.syntax.UnOp.{UnOp}
use Rattle.vd_clight.specs.declared.syntax.BinOp.{BinOp}
use Rattle.vd_clight.specs.declared.typed.Kind.{Kind}
use Rattle.vd_clight.specs.declared.typed.LockOp.{LockOp}
use Rattle.vd_clight.specs.declared.typed.Lval.{Lval}
use Rattle.vd_clight.specs.declared.typed.Cond.{Cond}
use Rattle.vd_clight.specs.declared.typed.TExpr as typed
use Rattle.vd_clight.specs.declared.typed.TExpr.{TExpr}
use Rattle.vd_clight.specs.declared.typed.TStmt as code
use Rattle.vd_clight.specs.declared.typed.TStmt.{TStmt}
use Rattle.vd_steps.specs.Code as c
use Rattle.vd_steps.specs.PlainCode.{plain_expression, plain_place, plain_condition, plain_statement, plain_statements}

pub record PlainExpressions : Type 0 where
  pub constant : (n : ℕ) → plain_expression (typed.Const n) ≡ c.Const n
  pub temporary : (x : ℕ) → plain_expression (typed.Temp x) ≡ c.Temp x
  pub address : (l : Lval) → plain_expression (typed.Addr l) ≡ c.Address (plain_place l).0 (plain_place l).1
  pub unary : (o : UnOp) (k : Kind) (e : TExpr) → plain_expression (typed.Unary o k e) ≡ c.Unary o k (plain_expression e)
  pub binary : (o : BinOp) (k : Kind) (d e : TExpr) →
      plain_expression (typed.Binary o k d e) ≡ c.Binary o k (plain_expression d) (plain_expression e)

pub record PlainStatements : Type 0 where
  pub skip : plain_statement code.Skip ≡ c.Skip
  pub set : (x : ℕ) (e : TExpr) → plain_statement (code.Set x e) ≡ c.Set x (plain_expression e)
  pub load : (x : ℕ) (l : Lval) → plain_statement (code.Load x l) ≡ c.Load x (plain_place l).0 (plain_place l).1
  pub store : (l : Lval) (e : TExpr) → plain_statement (code.Store l e) ≡ c.Store (plain_place l).0 (plain_place l).1 (plain_expression e)
  pub call : (x : Option ℕ) (f : Name) (es : List TExpr) → plain_statement (code.Call x f es) ≡ c.Call x f (map plain_expression es)
  pub malloc : (x n : ℕ) → plain_statement (code.Malloc x n) ≡ c.Malloc x n
  pub free : (e : TExpr) → plain_statement (code.Free e) ≡ c.Free (plain_expression e)
  pub lock : (o : LockOp) (e : TExpr) → plain_statement (code.Lock o e) ≡ c.OnLock o (plain_expression e)
  pub spawn : (f : Name) (e : TExpr) → plain_statement (code.Spawn f e) ≡ c.Spawn f (plain_expression e)
  pub branch : (d : Cond) (a b : List TStmt) →
      plain_statement (code.If d a b) ≡ c.If (plain_condition d) (plain_statements a) (plain_statements b)
  pub loop : (a : List TStmt) → plain_statement (code.Loop a) ≡ c.Loop (plain_statements a)
  pub break : plain_statement code.Break ≡ c.Break
  pub continue : plain_statement code.Continue ≡ c.Continue
  pub return : (e : Option TExpr) → plain_statement (code.Return e) ≡ c.Return (option_map plain_expression e)
