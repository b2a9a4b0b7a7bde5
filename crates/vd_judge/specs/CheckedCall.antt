-- The checker's way of calls.
use Rattle.std.specs.Prelude.{ℕ, ◌+◌, List, [], ◌∷◌, codes, Option, None, Some, length, if◌then◌else◌}
use Rattle.std.specs.Str.{bytes_eq}
use Rattle.vd_base.specs.declared.ctype.CType.{CType, Void}
use Rattle.vd_base.specs.declared.ctype.Field.{Field}
use Rattle.vd_clight.specs.declared.syntax.Expr.{Expr}
use Rattle.vd_clight.specs.declared.typed.TExpr.{TExpr}
use Rattle.vd_clight.specs.declared.typed.TStmt.{TStmt, Call, Spawn}
use Rattle.vd_judge.specs.declared.builtin.Builtin.{Builtin}
use Rattle.vd_judge.specs.declared.checked.Checked.{Checked}
use Rattle.vd_judge.specs.declared.checked.Checked.TheVariants.{Untyped}
use Rattle.vd_judge.specs.declared.found.Found.{Found}
use Rattle.vd_judge.specs.declared.found.Target.{Target}
use Rattle.vd_judge.specs.Call.{one_of, two_of, passed_by, wanted_at, disagrees, delivered, known, params_of, builtin_of, parameter_of, builtin_statement, malloc_cells, malloc_statement, name_of, starts_by}
use Rattle.vd_judge.specs.Checked.{fine, follows, pair, added}
use Rattle.vd_judge.specs.CheckedExpression.{operand_of, left_side, judged}
use Rattle.vd_judge.specs.Environment.{Environment, function_of}
use Rattle.vd_judge.specs.Found.{pointer_to}

abbrev pub passed : Option CType → Checked Found → Checked TExpr
passed t part = follows (operand_of part) (passed_by t)

-- the arguments from the k-th on, behind those that are there
abbrev pub arguments : Environment → List Field → ℕ → Checked (List TExpr) → List Expr → Checked (List TExpr)
arguments env params k sofar [] = sofar
arguments env params k sofar (e ∷ es) = arguments env params (k + 1) (added sofar (passed (wanted_at params k) (judged env e))) es

abbrev pub destination : Environment → Option Expr → Checked (Option Target)
destination env None = fine None
destination env (Some e) = follows (left_side (judged env e)) (λ t. fine (Some t))

-- the temporary that a call's result goes to, where the call gives a type
abbrev pub result_of : Environment → ℕ → Option Expr → Checked CType → Checked (Option ℕ)
result_of env place target typ = follows (pair (destination env target) typ) (λ p. delivered place p.1 p.0)

abbrev pub call_function : Environment → ℕ → Option Expr → List ℕ → List Expr → Checked TStmt
call_function env place target name args =
    follows (pair (result_of env place target (known place name (length args) (function_of env name))) (arguments env (params_of (function_of env name)) 0 (fine []) args))
    (λ p. fine (Call p.0 name p.1))

abbrev pub argument : Environment → ℕ → CType → Option Expr → Checked TExpr
argument env place t None = Untyped (disagrees place)
argument env place t (Some e) = passed (Some t) (judged env e)

abbrev pub call_builtin : Environment → ℕ → Option Expr → Builtin → List Expr → Checked TStmt
call_builtin env place target b args =
    follows (pair (result_of env place target (fine Void)) (argument env place (parameter_of b) (one_of args))) (λ p. fine (builtin_statement b p.1))

-- its result has to go somewhere
abbrev pub malloc_result : Environment → ℕ → Option Expr → Checked (Option ℕ)
malloc_result env place None = Untyped (disagrees place)
malloc_result env place (Some e) = result_of env place (Some e) (fine (pointer_to Void))

abbrev pub call_malloc : Environment → ℕ → Option Expr → List Expr → Checked TStmt
call_malloc env place target args = follows (pair (malloc_result env place target) (malloc_cells env place (one_of args))) (λ p. fine (malloc_statement p.0 p.1))

-- the argument that a thread starts with
abbrev pub spawned : Environment → ℕ → List ℕ → Expr → Checked TExpr
spawned env at name e = follows (pair (starts_by at name (function_of env name)) (operand_of (judged env e))) (λ p. passed_by (Some p.0) p.1)

-- the function that a thread runs, and its argument
abbrev pub thread_named : Environment → ℕ → Expr → Expr → Option (List ℕ) → Checked (List ℕ × TExpr)
thread_named env place f e None = Untyped (disagrees place)
thread_named env place f e (Some name) = follows (spawned env f.place name e) (λ v. fine (name, v))

abbrev pub thread : Environment → ℕ → Option (Expr × Expr) → Checked (List ℕ × TExpr)
thread env place None = Untyped (disagrees place)
thread env place (Some p) = thread_named env place p.0 p.1 (name_of p.0)

abbrev pub call_spawn : Environment → ℕ → Option Expr → List Expr → Checked TStmt
call_spawn env place target args = follows (pair (result_of env place target (fine Void)) (thread env place (two_of args))) (λ p. fine (Spawn p.1.0 p.1.1))

abbrev pub call_by : Environment → ℕ → Option Expr → List ℕ → List Expr → Option Builtin → Checked TStmt
call_by env place target name args None = call_function env place target name args
call_by env place target name args (Some b) = call_builtin env place target b args

abbrev pub call : Environment → ℕ → Option Expr → List ℕ → List Expr → Checked TStmt
call env place target name args =
    if bytes_eq name (codes "malloc") then call_malloc env place target args
    else if bytes_eq name (codes "spawn") then call_spawn env place target args
    else call_by env place target name args (builtin_of name)
