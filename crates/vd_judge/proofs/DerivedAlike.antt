-- What is derived under a table of structs is derived under any that tells the same sizes and fields.
use Rattle.std.proofs.Common.{◌≡◌, ℕ, ◌*◌, ◌==◌, Bool, true, cond, List, [], codes, Option, None, Some, option_map, option_and_then, if◌then◌else◌, refl, ap, ◌∙◌, subst}
use Rattle.std.proofs.Math.Path.{fun_ext}
use Rattle.std.specs.Option.{is_some}
use Rattle.std.specs.Str.{bytes_eq}
use Rattle.vd_base.specs.declared.ctype.CType.{CType, Void, Unsigned}
use Rattle.vd_base.specs.Layout.{Table, slot_of, typ_of}
use Rattle.vd_clight.specs.declared.syntax.Expr.{Expr}
use Rattle.vd_clight.specs.declared.syntax.ExprNode.{ExprNode, ExprNode-F, out-ExprNode}
use Rattle.vd_clight.specs.declared.syntax.ExprNode.TheOpen as node
use Rattle.vd_clight.specs.declared.syntax.Stmt.{Stmt}
use Rattle.vd_clight.specs.declared.syntax.StmtNode.{StmtNode, StmtNode-F, out-StmtNode}
use Rattle.vd_clight.specs.declared.syntax.StmtNode.TheOpen as stmt
use Rattle.vd_clight.specs.declared.typed.Lval.{Lval}
use Rattle.vd_clight.specs.declared.typed.TExpr.{Const}
use Rattle.vd_clight.specs.declared.typed.TStmt.{Spawn}
use Rattle.vd_judge.specs.declared.checked.Checked.TheVariants.{Untyped}
use Rattle.vd_judge.specs.declared.found.Form.{Form}
use Rattle.vd_judge.specs.declared.found.Form.TheVariants as form
use Rattle.vd_judge.specs.declared.found.Found.{Found}
use Rattle.vd_judge.specs.declared.place.Pointer.{Pointer}
use Rattle.vd_judge.specs.Call.{builtin_of, malloc_by, malloc_cells, malloc_statement, name_of, one_of, size_named, two_of}
use Rattle.vd_judge.specs.Checked.{fine, follows}
use Rattle.vd_judge.specs.Derivation.{Derives, by_both, by_expression, by_itself, by_resting, by_statement}
use Rattle.vd_judge.specs.Environment.{Environment, global_of, local_of}
use Rattle.vd_judge.specs.Operation.{computed}
use Rattle.vd_judge.specs.Place.{no_place, aligned, arrow_by, as_elements, cells_by, dot_by, dot_struct, element, field_in, global_by, in_memory, lval, selected, selected_by, sized, unknown_name, variable_by}
use Rattle.vd_clight.specs.declared.typed.Root.TheVariants as root
use Rattle.vd_judge.specs.Rule.{Rule, beside, expression, rests, says}
use Rattle.vd_judge.specs.Rules.{a_pointer, an_integer, call_by, call_malloc, call_rule, call_spawn, expression_rule, malloc_result, node_rule, result_of, returned, statement_node_rule, statement_rule, thread, thread_named}
use Rattle.vd_judge.specs.Sort.{Sort, Meaning}
use Rattle.vd_judge.specs.Sort as sort
use Rattle.vd_judge.specs.Types.{holds_of, struct_of}
use Rattle.vd_judge.specs.Alike.{AreAlike}

-- where a field lies and its type
field_same : (a b : Table) → AreAlike a b → (s f : List ℕ) → field_in a s f ≡ field_in b s f
field_same a b alike s f =
    ap (λ slot. option_and_then (λ x. option_map (λ t. (x.offset, t)) (typ_of a s x.index)) slot) (alike.slots s f)
    ∙ ap (λ g. option_and_then (λ x. option_map (λ t. (x.offset, t)) (g x.index)) (slot_of b s f)) (fun_ext (alike.types s))

-- what is the same of none and of each is the same of an option
by_option : {X Y : Type 0} (f g : Option X → Y) → f None ≡ g None → ((x : X) → f (Some x) ≡ g (Some x)) → (o : Option X) → f o ≡ g o
by_option f g none some None = none
by_option f g none some (Some x) = some x

-- the environment with another table
abbrev pub with : Environment → Table → Environment
with env table = record { params = env.params; temps = env.temps; returned = env.returned; globals = env.globals; functions = env.functions; structs = table }

module _ (a b : Table) (alike : AreAlike a b) where
  -- ---- what constructs say

  sized_same : (place : ℕ) (t : CType) → sized a place t ≡ sized b place t
  sized_same place t = ap (λ s. follows (cells_by place t s) (λ n. fine (computed place Unsigned (Const (4 * n))))) (alike.sizes t)

  aligned_same : (place : ℕ) (t : CType) → aligned a place t ≡ aligned b place t
  aligned_same place t = ap (λ s. follows (cells_by place t s) (λ n. fine (computed place Unsigned (Const 4)))) (alike.sizes t)

  elements_same : (p : Pointer) → as_elements a p ≡ as_elements b p
  elements_same p = ap (λ s. cond (holds_of s (λ n. n == 1)) (fine p) (Untyped (no_place p.place p.typ))) (alike.sizes p.target)

  selected_same : (place : ℕ) (f : List ℕ) (t : CType) (s : List ℕ) (l : Lval) → selected a place f t s l ≡ selected b place f t s l
  selected_same place f t s l =
      ap (λ n. selected_by place (cond (is_some n) f s) l (field_in a s f)) (alike.sizes t) ∙ ap (λ x. selected_by place (unknown_name b t s f) l x) (field_same a b alike s f)

  dot_struct_same : (place : ℕ) (f : List ℕ) (e : Found) (l : Lval) (s : Option (List ℕ)) → dot_struct a place f e l s ≡ dot_struct b place f e l s
  dot_struct_same place f e l None = refl
  dot_struct_same place f e l (Some s) = selected_same place f e.typ s l

  dot_same : (place : ℕ) (f : List ℕ) (e : Found) (x : Form) → dot_by a place f e x ≡ dot_by b place f e x
  dot_same place f e form.Zero = refl
  dot_same place f e (form.Value v) = refl
  dot_same place f e (form.Temporary x) = refl
  dot_same place f e (form.Memory l) = dot_struct_same place f e l (struct_of e.typ)
  dot_same place f e (form.Test at x y equal) = refl

  arrow_same : (place : ℕ) (f : List ℕ) (p : Pointer) (s : Option (List ℕ)) → arrow_by a place f p s ≡ arrow_by b place f p s
  arrow_same place f p None = refl
  arrow_same place f p (Some s) = selected_same place f p.target s p.to

  module _ (env : Environment) where
    global_same : (place : ℕ) (name : List ℕ) (t : Option CType) → global_by (with env a) place name t ≡ global_by (with env b) place name t
    global_same place name None = refl
    global_same place name (Some t) = ap (λ s. follows (cells_by place t s) (λ n. fine (in_memory place t (lval (root.Global name n) [])))) (alike.sizes t)

    variable_same : (place : ℕ) (name : List ℕ) (x : Option (ℕ × CType)) → variable_by (with env a) place name x ≡ variable_by (with env b) place name x
    variable_same place name None = global_same place name (global_of env name)
    variable_same place name (Some x) = refl

    malloc_type_same : (place at : ℕ) (t : Option CType) → malloc_by (with env a) place at t ≡ malloc_by (with env b) place at t
    malloc_type_same place at None = refl
    malloc_type_same place at (Some t) = ap (cells_by at t) (alike.sizes t)

    malloc_same : (place : ℕ) (e : Option Expr) → malloc_cells (with env a) place e ≡ malloc_cells (with env b) place e
    malloc_same place None = refl
    malloc_same place (Some e) = malloc_type_same place e.place (size_named e)

    -- ---- rules

    node_same : (n : ExprNode-F ExprNode Expr) (place : ℕ) → node_rule (with env a) n place ≡ node_rule (with env b) n place
    node_same (node.Num n unsigned) place = refl
    node_same (node.Ident name) place = ap says (variable_same place name (local_of env name))
    node_same (node.Unary o e) place = refl
    node_same (node.Binary o d e) place = refl
    node_same (node.Cast t e) place = refl
    node_same (node.SizeOf t) place = ap says (sized_same place t)
    node_same (node.AlignOf t) place = ap says (aligned_same place t)
    node_same (node.Field e f) place = ap (rests (expression e)) (fun_ext (λ x. ap says (dot_same place f x x.form)))
    node_same (node.Arrow e f) place = ap (rests (a_pointer (expression e))) (fun_ext (λ p. ap says (arrow_same place f p (struct_of p.target))))
    node_same (node.Index d e) place =
        ap (λ k. rests (beside (rests (a_pointer (expression d)) k) (an_integer (expression e))) (λ p. says (element place p))) (fun_ext (λ p. ap says (elements_same p)))
    node_same (node.Deref e) place = refl
    node_same (node.AddressOf e) place = refl

    thread_named_same : (place : ℕ) (f e : Expr) (name : Option (List ℕ)) → thread_named (with env a) place f e name ≡ thread_named (with env b) place f e name
    thread_named_same place f e None = refl
    thread_named_same place f e (Some name) = refl

    thread_same : (place : ℕ) (p : Option (Expr × Expr)) → thread (with env a) place p ≡ thread (with env b) place p
    thread_same place None = refl
    thread_same place (Some p) = thread_named_same place p.0 p.1 (name_of p.0)

    call_malloc_same : (place : ℕ) (target : Option Expr) (args : List Expr) → call_malloc (with env a) place target args ≡ call_malloc (with env b) place target args
    call_malloc_same place target args = ap (λ c. rests (beside (malloc_result place target) (says {s = sort.cells} c)) (λ p. says (fine (malloc_statement p.0 p.1)))) (malloc_same place (one_of args))

    call_spawn_same : (place : ℕ) (target : Option Expr) (args : List Expr) → call_spawn (with env a) place target args ≡ call_spawn (with env b) place target args
    call_spawn_same place target args = ap (λ r. rests (beside (result_of place target (says (fine Void))) r) (λ p. says (fine (Spawn p.1.0 p.1.1)))) (thread_same place (two_of args))

    call_by_same : (place : ℕ) (target : Option Expr) (name : List ℕ) (args : List Expr) → call_by (with env a) place target name args (builtin_of name) ≡ call_by (with env b) place target name args (builtin_of name)
    call_by_same place target name args = by_option (call_by (with env a) place target name args) (call_by (with env b) place target name args) refl (λ x. refl) (builtin_of name)

    call_same : (place : ℕ) (target : Option Expr) (name : List ℕ) (args : List Expr) → call_rule (with env a) place target name args ≡ call_rule (with env b) place target name args
    call_same place target name args =
        ap (λ r. if bytes_eq name (codes "malloc") then r else (if bytes_eq name (codes "spawn") then call_spawn (with env a) place target args else call_by (with env a) place target name args (builtin_of name))) (call_malloc_same place target args)
        ∙ (ap (λ r. if bytes_eq name (codes "malloc") then call_malloc (with env b) place target args else (if bytes_eq name (codes "spawn") then r else call_by (with env a) place target name args (builtin_of name))) (call_spawn_same place target args)
        ∙ ap (λ r. if bytes_eq name (codes "malloc") then call_malloc (with env b) place target args else (if bytes_eq name (codes "spawn") then call_spawn (with env b) place target args else r)) (call_by_same place target name args))

    returned_same : (place : ℕ) (e : Option Expr) → returned (with env a) place e ≡ returned (with env b) place e
    returned_same place None = refl
    returned_same place (Some e) = refl

    statement_same : (n : StmtNode-F StmtNode Stmt) (place : ℕ) → statement_node_rule (with env a) n place ≡ statement_node_rule (with env b) n place
    statement_same stmt.Skip place = refl
    statement_same (stmt.Assign left right) place = refl
    statement_same (stmt.Call target name args) place = call_same place target name args
    statement_same (stmt.If e s t) place = refl
    statement_same (stmt.While e s) place = refl
    statement_same stmt.Break place = refl
    statement_same stmt.Continue place = refl
    statement_same (stmt.Return e) place = returned_same place e

    -- ---- derivations

    pub derived : (normal : Bool) (s : Sort) (r : Rule s) (x : Meaning s) → Derives (with env a) normal s r x → Derives (with env b) normal s r x
    derived normal s r x (by_itself g) = by_itself g
    derived normal s r x (by_expression {e = e} d) = by_expression (subst (λ q. Derives (with env b) normal sort.found q x) (node_same (out-ExprNode e.node) e.place) (derived normal sort.found (expression_rule (with env a) e) x d))
    derived normal s r x (by_statement {t = t} d) = by_statement (subst (λ q. Derives (with env b) normal sort.statement q x) (statement_same (out-StmtNode t.node) t.place) (derived normal sort.statement (statement_rule (with env a) t) x d))
    derived normal s r x (by_resting {s = s'} {r = r'} {k = k} {x = y} d e) = by_resting (derived normal s' r' y d) (derived normal s (k y) x e)
    derived normal s r x (by_both {s = s'} {t = t'} {r = r'} {q = q'} {x = y} {y = z} d e) = by_both (derived normal s' r' y d) (derived normal t' q' z e)
