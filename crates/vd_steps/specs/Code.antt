-- Typed code in normal form: expressions, conditions, statements, functions. Lists of statements and of path steps are data of their own, so
-- that definitions over code are plain structural clauses, and they compute. What is not recursive is that of `vd_clight`.
use Rattle.std.specs.Prelude.{ℕ, Bool, List, Option}
use Rattle.vd_clight.specs.declared.syntax.UnOp.{UnOp}
use Rattle.vd_clight.specs.declared.syntax.BinOp.{BinOp}
use Rattle.vd_clight.specs.declared.typed.Kind.{Kind}
use Rattle.vd_clight.specs.declared.typed.Root.{Root}
use Rattle.vd_clight.specs.declared.typed.LockOp.{LockOp}
use Rattle.vd_terms.specs.Terms.{Name}

mutual
  -- a number; a parameter or temporary; the address of a place; an operation
  pub data Expr : Type 0 where
    Const : ℕ → Expr
    Temp : ℕ → Expr
    Address : Root → Path → Expr
    Unary : UnOp → Kind → Expr → Expr
    Binary : BinOp → Kind → Expr → Expr → Expr

  -- how far from a root, in cells
  pub data Path : Type 0 where
    Here : Path
    Offset : ℕ → Path → Path
    Index : Kind → Expr → Path → Path

-- an integer compared with 0, or a pointer test, whose flag is false for `!=`
pub data Cond : Type 0 where
  Nonzero : Kind → Expr → Cond
  Pointers : Expr → Expr → Bool → Cond

mutual
  pub data Stmt : Type 0 where
    Skip : Stmt
    Set : ℕ → Expr → Stmt
    Load : ℕ → Root → Path → Stmt
    Store : Root → Path → Expr → Stmt
    Call : Option ℕ → Name → List Expr → Stmt
    Malloc : ℕ → ℕ → Stmt
    Free : Expr → Stmt
    OnLock : LockOp → Expr → Stmt
    Spawn : Name → Expr → Stmt
    If : Cond → Stmts → Stmts → Stmt
    Loop : Stmts → Stmt
    Break : Stmt
    Continue : Stmt
    Return : Option Expr → Stmt

  pub data Stmts : Type 0 where
    End : Stmts
    Then : Stmt → Stmts → Stmts

-- the names of the parameters and then of the temporaries, and the body
pub record Function : Type 0 where
  pub temps : List Name
  pub body : Stmts
