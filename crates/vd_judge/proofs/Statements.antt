-- The checker's way of each statement, and of a function, agrees with its rule.
use Rattle.std.proofs.Common.{ℕ, ◌+◌, Bool, true, false, cond, List, [], ◌∷◌, codes, Option, None, Some, length}
use Rattle.std.specs.Str.{bytes_eq}
use Rattle.vd_base.specs.declared.ctype.CType.{CType, Void}
use Rattle.vd_base.specs.declared.ctype.Field.{Field}
use Rattle.vd_clight.specs.declared.syntax.Expr.{Expr}
use Rattle.vd_clight.specs.declared.typed.Lval.{Lval}
use Rattle.vd_clight.specs.declared.typed.TExpr.{TExpr}
use Rattle.vd_clight.specs.declared.typed.TStmt.{Set, Store, Return, Spawn, Call}
use Rattle.vd_judge.specs.declared.builtin.Builtin.{Builtin}
use Rattle.vd_judge.specs.declared.checked.Checked.{Checked}
use Rattle.vd_judge.specs.declared.found.Destination.{Destination}
use Rattle.vd_judge.specs.declared.found.Destination.TheVariants as to
use Rattle.vd_judge.specs.declared.found.Form.{Form}
use Rattle.vd_judge.specs.declared.found.Form.TheVariants as form
use Rattle.vd_judge.specs.declared.found.Found.{Found}
use Rattle.vd_judge.specs.Call as calls
use Rattle.vd_judge.specs.CheckedCall as checked
use Rattle.vd_judge.specs.Checked.{fine, unless, pair, added, with_last}
use Rattle.vd_judge.specs.Environment.{Environment, function_of}
use Rattle.vd_judge.specs.CheckedExpression.{judged, operand_of, condition_of, left_side}
use Rattle.vd_judge.specs.Found.{as_operand, pointer_to}
use Rattle.vd_judge.specs.Operation.{wants}
use Rattle.vd_judge.specs.Rule.{Rule, says, expression, beside}
use Rattle.vd_judge.specs.Rules as rules
use Rattle.vd_judge.specs.Rules.{a_value, a_condition, a_target}
use Rattle.vd_judge.specs.Sort.{Sort, Meaning}
use Rattle.vd_judge.specs.Sort as sort
use Rattle.vd_judge.specs.CheckedStatement as checks
use Rattle.vd_judge.specs.Types.{element_of}
use Rattle.vd_judge.proofs.Agreement.{Agrees, agrees_says, agrees_rests, agrees_both}
use Rattle.vd_judge.proofs.Agreeing.{said_on, said_of_both, value, target, condition}
use Rattle.vd_judge.proofs.Expressions.{judged_agrees}

module _ (env : Environment) where
  abbrev J : Expr → Checked Found
  J e = judged env e

  -- ---- assignments

  value_set : (x : ℕ) (t : CType) (f : Found) → Agrees env (rules.set_value x t f) (checks.set_value x t f)
  value_set x t f = said_on env (rules.value_of f) (as_operand f) (λ o. unless (wants t o) (Set x o.value)) (agrees_says env (as_operand f))

  memory_set : (x : ℕ) (t : CType) (f : Found) (l : Lval) (o : Option CType) → Agrees env (rules.set_memory x t f l o) (checks.set_memory x t f l o)
  memory_set x t f l None = agrees_says env (checks.set_memory x t f l None)
  memory_set x t f l (Some element) = value_set x t f

  form_set : (x : ℕ) (t : CType) (f : Found) (g : Form) → Agrees env (rules.set_form x t f g) (checks.set_by x t f g)
  form_set x t f form.Zero = value_set x t f
  form_set x t f (form.Value e) = value_set x t f
  form_set x t f (form.Temporary y) = value_set x t f
  form_set x t f (form.Memory l) = memory_set x t f l (element_of f.typ)
  form_set x t f (form.Test at a b equal) = value_set x t f

  assigned_to : (t : CType) (f : Found) (d : Destination) → Agrees env (rules.assign_to t f d) (checks.assign_by t f d)
  assigned_to t f (to.Temporary x) = form_set x t f f.form
  assigned_to t f (to.Memory l) = said_on env (rules.value_of f) (as_operand f) (λ o. unless (wants t o) (Store l o.value)) (agrees_says env (as_operand f))

  assigned : (left right : Expr) → Agrees env (rules.assignment left right) (checks.assigned env left right)
  assigned left right = agrees_rests env (beside (a_target (expression left)) (expression right)) (λ p. rules.assign_to p.0.typ p.1 p.0.to) checks.assign (λ p. assigned_to p.0.typ p.1 p.0.to)
      (pair (left_side (J left)) (J right))
      (agrees_both env (a_target (expression left)) (expression right) (left_side (J left)) (J right) (target env (expression left) (J left) (judged_agrees env left)) (judged_agrees env right))

  -- ---- calls

  passed : (t : Option CType) (e : Expr) → Agrees env (rules.passed t (expression e)) (checked.passed t (J e))
  passed t e = said_on env (a_value (expression e)) (operand_of (J e)) (calls.passed_by t) (value env (expression e) (J e) (judged_agrees env e))

  arguments : (params : List Field) (k : ℕ) (r : Rule sort.values) (c : Checked (List TExpr)) (es : List Expr) → Agrees env r c → Agrees env (rules.arguments params k r es) (checked.arguments env params k c es)
  arguments params k r c [] a = a
  arguments params k r c (e ∷ es) a = arguments params (k + 1) (rules.one_more r (rules.passed (calls.wanted_at params k) (expression e))) (added c (checked.passed (calls.wanted_at params k) (J e))) es
      (said_of_both env r (rules.passed (calls.wanted_at params k) (expression e)) c (checked.passed (calls.wanted_at params k) (J e)) with_last a (passed (calls.wanted_at params k) e))

  destination : (o : Option Expr) → Agrees env (rules.destination o) (checked.destination env o)
  destination None = agrees_says env (checked.destination env None)
  destination (Some e) = said_on env (a_target (expression e)) (left_side (J e)) (λ t. fine (Some t)) (target env (expression e) (J e) (judged_agrees env e))

  result : (place : ℕ) (o : Option Expr) (c : Checked CType) → Agrees env (rules.result_of place o (says c)) (checked.result_of env place o c)
  result place o c = said_of_both env (rules.destination o) (says c) (checked.destination env o) c (λ p. calls.delivered place p.1 p.0) (destination o) (agrees_says env c)

  function_called : (place : ℕ) (o : Option Expr) (name : List ℕ) (args : List Expr) → Agrees env (rules.call_function env place o name args) (checked.call_function env place o name args)
  function_called place o name args =
      let known = calls.known place name (length args) (function_of env name) in
      let params = calls.params_of (function_of env name) in
      said_of_both env (rules.result_of place o (says known)) (rules.arguments params 0 (says (fine [])) args) (checked.result_of env place o known) (checked.arguments env params 0 (fine []) args) (λ p. fine (Call p.0 name p.1))
      (result place o known) (arguments params 0 (says (fine [])) (fine []) args (agrees_says env (fine [])))

  argument : (place : ℕ) (t : CType) (o : Option Expr) → Agrees env (rules.argument place t o) (checked.argument env place t o)
  argument place t None = agrees_says env (checked.argument env place t None)
  argument place t (Some e) = passed (Some t) e

  builtin_called : (place : ℕ) (o : Option Expr) (b : Builtin) (args : List Expr) → Agrees env (rules.call_builtin place o b args) (checked.call_builtin env place o b args)
  builtin_called place o b args =
      said_of_both env (rules.result_of place o (says (fine Void))) (rules.argument place (calls.parameter_of b) (calls.one_of args)) (checked.result_of env place o (fine Void))
      (checked.argument env place (calls.parameter_of b) (calls.one_of args)) (λ p. fine (calls.builtin_statement b p.1)) (result place o (fine Void)) (argument place (calls.parameter_of b) (calls.one_of args))

  malloc_result : (place : ℕ) (o : Option Expr) → Agrees env (rules.malloc_result place o) (checked.malloc_result env place o)
  malloc_result place None = agrees_says env (checked.malloc_result env place None)
  malloc_result place (Some e) = result place (Some e) (fine (pointer_to Void))

  malloc_called : (place : ℕ) (o : Option Expr) (args : List Expr) → Agrees env (rules.call_malloc env place o args) (checked.call_malloc env place o args)
  malloc_called place o args =
      let cells = calls.malloc_cells env place (calls.one_of args) in
      said_of_both env (rules.malloc_result place o) (rules.malloc_size env place (calls.one_of args)) (checked.malloc_result env place o) cells (λ p. fine (calls.malloc_statement p.0 p.1)) (malloc_result place o) (agrees_says env cells)

  spawned : (at : ℕ) (name : List ℕ) (e : Expr) → Agrees env (rules.spawned env at name e) (checked.spawned env at name e)
  spawned at name e =
      let starts = calls.starts_by at name (function_of env name) in
      said_of_both env (rules.started env at name) (a_value (expression e)) starts (operand_of (J e)) (λ p. calls.passed_by (Some p.0) p.1) (agrees_says env starts) (value env (expression e) (J e) (judged_agrees env e))

  named_thread : (place : ℕ) (f e : Expr) (name : Option (List ℕ)) → Agrees env (rules.thread_named env place f e name) (checked.thread_named env place f e name)
  named_thread place f e None = agrees_says env (checked.thread_named env place f e None)
  named_thread place f e (Some name) = said_on env (rules.spawned env f.place name e) (checked.spawned env f.place name e) (λ v. fine (name, v)) (spawned f.place name e)

  thread : (place : ℕ) (p : Option (Expr × Expr)) → Agrees env (rules.thread env place p) (checked.thread env place p)
  thread place None = agrees_says env (checked.thread env place None)
  thread place (Some p) = named_thread place p.0 p.1 (calls.name_of p.0)

  spawn_called : (place : ℕ) (o : Option Expr) (args : List Expr) → Agrees env (rules.call_spawn env place o args) (checked.call_spawn env place o args)
  spawn_called place o args =
      said_of_both env (rules.result_of place o (says (fine Void))) (rules.thread env place (calls.two_of args)) (checked.result_of env place o (fine Void)) (checked.thread env place (calls.two_of args)) (λ p. fine (Spawn p.1.0 p.1.1))
      (result place o (fine Void)) (thread place (calls.two_of args))

  called_by : (place : ℕ) (o : Option Expr) (name : List ℕ) (args : List Expr) (b : Option Builtin) → Agrees env (rules.call_by env place o name args b) (checked.call_by env place o name args b)
  called_by place o name args None = function_called place o name args
  called_by place o name args (Some b) = builtin_called place o b args

  chosen : {s : Sort} (b : Bool) (r q : Rule s) (c d : Checked (Meaning s)) → Agrees env r c → Agrees env q d → Agrees env (cond b r q) (cond b c d)
  chosen true r q c d one two = one
  chosen false r q c d one two = two

  pub called : (place : ℕ) (o : Option Expr) (name : List ℕ) (args : List Expr) → Agrees env (rules.call_rule env place o name args) (checked.call env place o name args)
  called place o name args =
      let b = calls.builtin_of name in
      chosen (bytes_eq name (codes "malloc")) (rules.call_malloc env place o args) _ (checked.call_malloc env place o args) _ (malloc_called place o args)
      (chosen (bytes_eq name (codes "spawn")) (rules.call_spawn env place o args) (rules.call_by env place o name args b) (checked.call_spawn env place o args) (checked.call_by env place o name args b) (spawn_called place o args)
      (called_by place o name args b))

  pub tested : (e : Expr) → Agrees env (rules.tested e) (checks.tested env e)
  tested e = said_on env (a_condition (expression e)) (condition_of (J e)) (λ c. fine c.test) (condition env (expression e) (J e) (judged_agrees env e))

  pub returned : (place : ℕ) (o : Option Expr) → Agrees env (rules.returned env place o) (checks.returned env place o)
  returned place None = agrees_says env (checks.returned env place None)
  returned place (Some e) = said_on env (rules.passed (Some env.returned) (expression e)) (checked.passed (Some env.returned) (J e)) (λ v. fine (Return (Some v))) (passed (Some env.returned) e)

  pub assignments : (left right : Expr) → Agrees env (rules.assignment left right) (checks.assigned env left right)
  assignments = assigned
