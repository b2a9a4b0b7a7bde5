-- The checker's way of statements.
use Rattle.std.specs.Prelude.{ℕ, List, [], ◌∷◌, Option, None, Some, cond}
use Rattle.vd_base.specs.declared.ctype.CType.{CType, Void}
use Rattle.vd_clight.specs.declared.syntax.Expr.{Expr}
use Rattle.vd_clight.specs.declared.syntax.Stmt.{Stmt, Stmt-F, fold-Stmt}
use Rattle.vd_clight.specs.declared.syntax.StmtNode.{StmtNode-F}
use Rattle.vd_clight.specs.declared.syntax.StmtNode.TheOpen as node
use Rattle.vd_clight.specs.declared.typed.Cond.{Cond}
use Rattle.vd_clight.specs.declared.typed.Lval.{Lval}
use Rattle.vd_clight.specs.declared.typed.TStmt.{TStmt, Skip, Set, Load, Store, If, Loop, Break, Continue, Return}
use Rattle.vd_judge.specs.declared.fault.TypeFault.TheVariants as fault
use Rattle.vd_judge.specs.declared.checked.Checked.{Checked}
use Rattle.vd_judge.specs.declared.found.Form.{Form}
use Rattle.vd_judge.specs.declared.found.Form.TheVariants as form
use Rattle.vd_judge.specs.declared.found.Found.{Found}
use Rattle.vd_judge.specs.declared.found.Destination.{Destination}
use Rattle.vd_judge.specs.declared.found.Destination.TheVariants as to
use Rattle.vd_judge.specs.declared.found.Target.{Target}
use Rattle.vd_judge.specs.CheckedCall.{passed, call}
use Rattle.vd_judge.specs.Call.{wants_type}
use Rattle.vd_judge.specs.Checked.{fine, unless, follows, pair, gathered}
use Rattle.vd_judge.specs.Environment.{Environment}
use Rattle.vd_judge.specs.CheckedExpression.{judged, left_side, condition_of}
use Rattle.vd_judge.specs.Found.{as_operand}
use Rattle.vd_judge.specs.Operation.{wants}
use Rattle.vd_judge.specs.Types.{is_void, element_of}

-- ---- assignments

-- a temporary gets a value
abbrev pub set_value : ℕ → CType → Found → Checked TStmt
set_value x t f = follows (as_operand f) (λ o. unless (wants t o) (Set x o.value))

-- a temporary gets what is read from memory: the whole right side, and so in normal form
abbrev pub set_memory : ℕ → CType → Found → Lval → Option CType → Checked TStmt
set_memory x t f l None = unless (wants_type f.place t f.typ) (Load x l)
set_memory x t f l (Some element) = set_value x t f

abbrev pub set_by : ℕ → CType → Found → Form → Checked TStmt
set_by x t f form.Zero = set_value x t f
set_by x t f (form.Value e) = set_value x t f
set_by x t f (form.Temporary y) = set_value x t f
set_by x t f (form.Memory l) = set_memory x t f l (element_of f.typ)
set_by x t f (form.Test at a b equal) = set_value x t f

abbrev pub set : ℕ → CType → Found → Checked TStmt
set x t f = set_by x t f f.form

-- a value is stored in memory
abbrev pub store : Lval → CType → Found → Checked TStmt
store l t f = follows (as_operand f) (λ o. unless (wants t o) (Store l o.value))

abbrev pub assign_by : CType → Found → Destination → Checked TStmt
assign_by t f (to.Temporary x) = set x t f
assign_by t f (to.Memory l) = store l t f

abbrev pub assign : Target × Found → Checked TStmt
assign p = assign_by p.0.typ p.1 p.0.to

abbrev pub assigned : Environment → Expr → Expr → Checked TStmt
assigned env left right = follows (pair (left_side (judged env left)) (judged env right)) assign

-- ---- other statements

abbrev pub tested : Environment → Expr → Checked Cond
tested env e = follows (condition_of (judged env e)) (λ c. fine c.test)

abbrev pub returned : Environment → ℕ → Option Expr → Checked TStmt
returned env place None = unless (cond (is_void env.returned) None (Some (fault.Mismatch place env.returned Void))) (Return None)
returned env place (Some e) = follows (passed (Some env.returned) (judged env e)) (λ v. fine (Return (Some v)))

-- a list of statements
abbrev pub block : List (Checked TStmt) → Checked (List TStmt)
block statements = gathered (fine []) statements

abbrev pub branches : Checked Cond → Checked (List TStmt) → Checked (List TStmt) → Checked TStmt
branches c a b = follows (pair c (pair a b)) (λ p. fine (If p.0 p.1.0 p.1.1))

-- `while` is a loop that ends where the condition fails
abbrev pub repeats : Checked Cond → Checked (List TStmt) → Checked TStmt
repeats c s = follows (pair c s) (λ p. fine (Loop (If p.0 p.1 (Break ∷ []) ∷ [])))

-- a statement at a place, over the statements within it
abbrev pub statement_node : Environment → StmtNode-F (ℕ → Checked TStmt) (Checked TStmt) → ℕ → Checked TStmt
statement_node env node.Skip place = fine Skip
statement_node env (node.Assign left right) place = assigned env left right
statement_node env (node.Call target name args) place = call env place target name args
statement_node env (node.If e a b) place = branches (tested env e) (block a) (block b)
statement_node env (node.While e s) place = repeats (tested env e) (block s)
statement_node env node.Break place = fine Break
statement_node env node.Continue place = fine Continue
statement_node env (node.Return e) place = returned env place e

abbrev pub statement_layer : Stmt-F (ℕ → Checked TStmt) (Checked TStmt) → Checked TStmt
statement_layer s = s.node s.place

-- the typed statement, or its first fault
unfoldable pub typed_statement : Environment → Stmt → Checked TStmt
typed_statement env = fold-Stmt (ℕ → Checked TStmt) (Checked TStmt) (statement_node env) statement_layer
