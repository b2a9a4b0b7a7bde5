-- Wholeness of expressions and statements, one layer at a time.
use Rattle.std.proofs.Common.{◌≡◌, ℕ, Bool, true, ◌&&◌, List, [], ◌∷◌, length, Option, refl, ap, ap₂}
use Rattle.std.specs.List.{list_all}
use Rattle.std.specs.Prelude.{nat_lt, nat_le, map}
use Rattle.vd_clight.specs.declared.program.Program.{Program}
use Rattle.vd_clight.specs.declared.syntax.BinOp.{BinOp}
use Rattle.vd_clight.specs.declared.syntax.UnOp.{UnOp}
use Rattle.vd_clight.specs.declared.typed.Cond.{Cond}
use Rattle.vd_clight.specs.declared.typed.Kind.{Kind}
use Rattle.vd_clight.specs.declared.typed.LockOp.{LockOp}
use Rattle.vd_clight.specs.declared.typed.Lval.{Lval, fold_out-Lval}
use Rattle.vd_clight.specs.declared.typed.Part.{Offset, Index, fold_out-Part}
use Rattle.vd_clight.specs.declared.typed.Part.TheViews.{outs-Const, outs-Temp, outs-Addr, outs-Unary, outs-Binary, outs-Offset, outs-Index}
use Rattle.vd_clight.specs.declared.typed.TExpr.{TExpr, Const, Temp, Addr, Unary, Binary, fold_out-TExpr}
use Rattle.vd_clight.specs.declared.typed.TStmt.{TStmt, Skip, Set, Load, Store, Call, Malloc, Free, Lock, Spawn, If, Loop, Break, Continue, Return, fold_out-TStmt}
use Rattle.vd_clight.specs.declared.typed.TStmt.TheVariants.{outs-Skip, outs-Set, outs-Load, outs-Store, outs-Call, outs-Malloc, outs-Free, outs-Lock, outs-Spawn, outs-If, outs-Loop, outs-Break, outs-Continue, outs-Return}
use Rattle.vd_clight.specs.Whole.{are_true, is_whole_condition, is_whole_expression, is_whole_place, is_whole_result, is_whole_root, is_whole_statement, is_whole_target, most_cells, takes}
use Rattle.vd_whole.specs.Names.{is_whole_part}

-- ---- expressions

pub whole-Const : (p : Program) (n k : ℕ) → is_whole_expression p n (Const k) ≡ true
unfolding is_whole_expression
whole-Const p n k = rw (fold_out-TExpr _ _ _ _ _ _ (Const k), outs-Const k)

pub whole-Temp : (p : Program) (n x : ℕ) → is_whole_expression p n (Temp x) ≡ nat_lt x n
unfolding is_whole_expression
whole-Temp p n x = rw (fold_out-TExpr _ _ _ _ _ _ (Temp x), outs-Temp x)

pub whole-Addr : (p : Program) (n : ℕ) (l : Lval) → is_whole_expression p n (Addr l) ≡ is_whole_place p n l
unfolding is_whole_expression is_whole_place
whole-Addr p n l = rw (fold_out-TExpr _ _ _ _ _ _ (Addr l), outs-Addr l)

pub whole-Unary : (p : Program) (n : ℕ) (op : UnOp) (k : Kind) (e : TExpr) → is_whole_expression p n (Unary op k e) ≡ is_whole_expression p n e
unfolding is_whole_expression
whole-Unary p n op k e = rw (fold_out-TExpr _ _ _ _ _ _ (Unary op k e), outs-Unary op k e)

pub whole-Binary : (p : Program) (n : ℕ) (op : BinOp) (k : Kind) (d e : TExpr) → is_whole_expression p n (Binary op k d e) ≡ (is_whole_expression p n d && is_whole_expression p n e)
unfolding is_whole_expression
whole-Binary p n op k d e = rw (fold_out-TExpr _ _ _ _ _ _ (Binary op k d e), outs-Binary op k d e)

pub whole-Offset : (p : Program) (n k : ℕ) → is_whole_part p n (Offset k) ≡ true
unfolding is_whole_part
whole-Offset p n k = rw (fold_out-Part _ _ _ _ _ _ (Offset k), outs-Offset k)

pub whole-Index : (p : Program) (n : ℕ) (k : Kind) (e : TExpr) → is_whole_part p n (Index k e) ≡ is_whole_expression p n e
unfolding is_whole_part is_whole_expression
whole-Index p n k e = rw (fold_out-Part _ _ _ _ _ _ (Index k e), outs-Index k e)

all_mapped : {X : Type 0} (f : X → Bool) (xs : List X) → are_true (map f xs) ≡ list_all f xs
all_mapped f [] = refl
all_mapped f (x ∷ xs) = ap (λ b. f x && b) (all_mapped f xs)

-- a place is whole where its root and its path are
pub whole-place : (p : Program) (n : ℕ) (l : Lval) → is_whole_place p n l ≡ (is_whole_root p n l.root && list_all (is_whole_part p n) l.path)
unfolding is_whole_place is_whole_part
whole-place p n l = rw (fold_out-Lval _ _ _ _ _ _ l) (ap (λ b. is_whole_root p n l.root && b) (all_mapped (is_whole_part p n) l.path))

-- ---- statements

pub whole-Skip : (p : Program) (n : ℕ) → is_whole_statement p n Skip ≡ true
unfolding is_whole_statement
whole-Skip p n = rw (fold_out-TStmt _ _ Skip, outs-Skip)

pub whole-Set : (p : Program) (n x : ℕ) (e : TExpr) → is_whole_statement p n (Set x e) ≡ (nat_lt x n && is_whole_expression p n e)
unfolding is_whole_statement
whole-Set p n x e = rw (fold_out-TStmt _ _ (Set x e), outs-Set x e)

pub whole-Load : (p : Program) (n x : ℕ) (l : Lval) → is_whole_statement p n (Load x l) ≡ (nat_lt x n && is_whole_place p n l)
unfolding is_whole_statement
whole-Load p n x l = rw (fold_out-TStmt _ _ (Load x l), outs-Load x l)

pub whole-Store : (p : Program) (n : ℕ) (l : Lval) (e : TExpr) → is_whole_statement p n (Store l e) ≡ (is_whole_place p n l && is_whole_expression p n e)
unfolding is_whole_statement
whole-Store p n l e = rw (fold_out-TStmt _ _ (Store l e), outs-Store l e)

pub whole-Call : (p : Program) (n : ℕ) (x : Option ℕ) (f : List ℕ) (es : List TExpr) → is_whole_statement p n (Call x f es) ≡ (is_whole_target n x && (takes p f (length es) && list_all (is_whole_expression p n) es))
unfolding is_whole_statement
whole-Call p n x f es = rw (fold_out-TStmt _ _ (Call x f es), outs-Call x f es)

pub whole-Malloc : (p : Program) (n x k : ℕ) → is_whole_statement p n (Malloc x k) ≡ (nat_lt x n && nat_le k most_cells)
unfolding is_whole_statement
whole-Malloc p n x k = rw (fold_out-TStmt _ _ (Malloc x k), outs-Malloc x k)

pub whole-Free : (p : Program) (n : ℕ) (e : TExpr) → is_whole_statement p n (Free e) ≡ is_whole_expression p n e
unfolding is_whole_statement
whole-Free p n e = rw (fold_out-TStmt _ _ (Free e), outs-Free e)

pub whole-Lock : (p : Program) (n : ℕ) (op : LockOp) (e : TExpr) → is_whole_statement p n (Lock op e) ≡ is_whole_expression p n e
unfolding is_whole_statement
whole-Lock p n op e = rw (fold_out-TStmt _ _ (Lock op e), outs-Lock op e)

pub whole-Spawn : (p : Program) (n : ℕ) (f : List ℕ) (e : TExpr) → is_whole_statement p n (Spawn f e) ≡ (takes p f 1 && is_whole_expression p n e)
unfolding is_whole_statement
whole-Spawn p n f e = rw (fold_out-TStmt _ _ (Spawn f e), outs-Spawn f e)

pub whole-If : (p : Program) (n : ℕ) (c : Cond) (a b : List TStmt) → is_whole_statement p n (If c a b) ≡ (is_whole_condition p n c && (list_all (is_whole_statement p n) a && list_all (is_whole_statement p n) b))
unfolding is_whole_statement
whole-If p n c a b =
    rw (fold_out-TStmt _ _ (If c a b), outs-If c a b) (ap₂ (λ x y. is_whole_condition p n c && (x && y)) (all_mapped (is_whole_statement p n) a) (all_mapped (is_whole_statement p n) b))

pub whole-Loop : (p : Program) (n : ℕ) (a : List TStmt) → is_whole_statement p n (Loop a) ≡ list_all (is_whole_statement p n) a
unfolding is_whole_statement
whole-Loop p n a = rw (fold_out-TStmt _ _ (Loop a), outs-Loop a) (all_mapped (is_whole_statement p n) a)

pub whole-Break : (p : Program) (n : ℕ) → is_whole_statement p n Break ≡ true
unfolding is_whole_statement
whole-Break p n = rw (fold_out-TStmt _ _ Break, outs-Break)

pub whole-Continue : (p : Program) (n : ℕ) → is_whole_statement p n Continue ≡ true
unfolding is_whole_statement
whole-Continue p n = rw (fold_out-TStmt _ _ Continue, outs-Continue)

pub whole-Return : (p : Program) (n : ℕ) (e : Option TExpr) → is_whole_statement p n (Return e) ≡ is_whole_result p n e
unfolding is_whole_statement
whole-Return p n e = rw (fold_out-TStmt _ _ (Return e), outs-Return e)

pub ruleset layers = (whole-Const, whole-Temp, whole-Addr, whole-Unary, whole-Binary, whole-Offset, whole-Index, whole-place, whole-Skip, whole-Set, whole-Load, whole-Store, whole-Call, whole-Malloc, whole-Free, whole-Lock, whole-Spawn, whole-If, whole-Loop, whole-Break, whole-Continue, whole-Return)
