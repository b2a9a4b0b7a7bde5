-- The rules of typing, one line a construct. Each says which parts it takes, as what, and in which order they are read. The types are Clight's; a value that is read from memory is a statement's own, as in Verifiable C.
use Rattle.std.specs.Prelude.{ℕ, ◌+◌, List, [], ◌∷◌, codes, Option, None, Some, cond, length, if◌then◌else◌}
use Rattle.std.specs.Str.{bytes_eq}
use Rattle.vd_base.specs.declared.ctype.CType.{CType, Void}
use Rattle.vd_base.specs.declared.ctype.Field.{Field}
use Rattle.vd_base.specs.Layout.{Table}
use Rattle.vd_clight.specs.declared.syntax.Expr.{Expr}
use Rattle.vd_clight.specs.declared.syntax.ExprNode.{ExprNode, ExprNode-F, out-ExprNode}
use Rattle.vd_clight.specs.declared.syntax.ExprNode.TheOpen as node
use Rattle.vd_clight.specs.declared.syntax.Stmt.{Stmt}
use Rattle.vd_clight.specs.declared.syntax.StmtNode.{StmtNode, StmtNode-F, out-StmtNode}
use Rattle.vd_clight.specs.declared.syntax.StmtNode.TheOpen as stmt
use Rattle.vd_clight.specs.declared.syntax.UnOp.{UnOp}
use Rattle.vd_clight.specs.declared.syntax.UnOp.TheVariants as prefix
use Rattle.vd_clight.specs.declared.typed.Cond.TheVariants as test
use Rattle.vd_clight.specs.declared.typed.Lval.{Lval}
use Rattle.vd_clight.specs.declared.typed.TStmt.{Skip, Set, Load, Store, Call, If, Loop, Break, Continue, Return, Spawn}
use Rattle.vd_judge.specs.declared.builtin.Builtin.{Builtin}
use Rattle.vd_judge.specs.declared.checked.Checked.TheVariants.{Untyped}
use Rattle.vd_judge.specs.declared.fault.TypeFault.TheVariants as fault
use Rattle.vd_judge.specs.declared.found.Destination.{Destination}
use Rattle.vd_judge.specs.declared.found.Destination.TheVariants as to
use Rattle.vd_judge.specs.declared.found.Form.{Form}
use Rattle.vd_judge.specs.declared.found.Form.TheVariants as form
use Rattle.vd_judge.specs.declared.found.Found.{Found}
use Rattle.vd_judge.specs.declared.operation.Class.{Class}
use Rattle.vd_judge.specs.declared.operation.Class.TheVariants as class
use Rattle.vd_judge.specs.Call.{one_of, two_of, passed_by, wanted_at, disagrees, wants_type, delivered, known, params_of, builtin_of, parameter_of, builtin_statement, malloc_cells, malloc_statement, name_of, starts_by}
use Rattle.vd_judge.specs.Checked.{fine, unless, with_last}
use Rattle.vd_judge.specs.Environment.{Environment, function_of}
use Rattle.vd_judge.specs.Found.{as_operand, truth, as_target, pointer_to}
use Rattle.vd_judge.specs.Operation.{as_integer, as_unsigned, as_scalar, wants, opposite, complement, negation, class_of, binary, cast}
use Rattle.vd_judge.specs.Place.{number, variable, sized, aligned, dot, as_pointer, as_elements, arrow, element, pointed, address}
use Rattle.vd_judge.specs.Rule.{Rule, says, expression, statement, rests, beside}
use Rattle.vd_judge.specs.Sort as sort
use Rattle.vd_judge.specs.Types.{is_void, element_of}

-- ---- an expression as a value, a pointer, a condition, a left side

abbrev pub value_of : Found → Rule sort.operand
value_of x = says (as_operand x)

abbrev pub a_value : Rule sort.found → Rule sort.operand
a_value r = rests r value_of

abbrev pub an_integer : Rule sort.found → Rule sort.operand
an_integer r = rests (a_value r) (λ o. says (as_integer o))

abbrev pub an_unsigned : Rule sort.found → Rule sort.operand
an_unsigned r = rests (a_value r) (λ o. says (as_unsigned o))

abbrev pub a_scalar : Rule sort.found → Rule sort.operand
a_scalar r = rests (a_value r) (λ o. says (as_scalar o))

abbrev pub a_pointer : Rule sort.found → Rule sort.pointer
a_pointer r = rests (a_value r) (λ o. says (as_pointer o))

abbrev pub an_array : Table → Rule sort.found → Rule sort.pointer
an_array structs r = rests (a_pointer r) (λ p. says (as_elements structs p))

-- what is no test of pointers is a condition by its value
abbrev pub by_value : Found → Rule sort.condition
by_value x = rests (value_of x) (λ o. says (truth o))

abbrev pub tested_form : Found → Form → Rule sort.condition
tested_form x form.Zero = by_value x
tested_form x (form.Value e) = by_value x
tested_form x (form.Temporary k) = by_value x
tested_form x (form.Memory l) = by_value x
tested_form x (form.Test at a b equal) = says (fine (record { place = at; test = test.Same a b equal }))

abbrev pub a_condition : Rule sort.found → Rule sort.condition
a_condition r = rests r (λ x. tested_form x x.form)

abbrev pub a_target : Rule sort.found → Rule sort.target
a_target r = rests r (λ x. says (as_target x))

-- ---- expressions

abbrev pub unary_rule : UnOp → ℕ → Rule sort.found → Rule sort.found
unary_rule prefix.Minus place r = rests (an_integer r) (λ o. says (opposite place o))
unary_rule prefix.Not place r = rests (a_condition r) (λ c. says (negation place c))
unary_rule prefix.Invert place r = rests (an_unsigned r) (λ o. says (complement place o))

abbrev pub left_operand : Class → Rule sort.found → Rule sort.operand
left_operand class.Arithmetic r = an_integer r
left_operand class.Bits r = an_integer r
left_operand class.Shift r = an_unsigned r
left_operand class.Order r = an_integer r
left_operand (class.Equality equal) r = a_scalar r

abbrev pub right_operand : Class → Rule sort.found → Rule sort.operand
right_operand class.Arithmetic r = an_integer r
right_operand class.Bits r = an_integer r
right_operand class.Shift r = an_integer r
right_operand class.Order r = an_integer r
right_operand (class.Equality equal) r = a_scalar r

-- an expression at a place
abbrev pub node_rule : Environment → ExprNode-F ExprNode Expr → ℕ → Rule sort.found
node_rule env (node.Num n unsigned) place = says (fine (number place n unsigned))
node_rule env (node.Ident name) place = says (variable env place name)
node_rule env (node.Unary o a) place = unary_rule o place (expression a)
node_rule env (node.Binary o a b) place = rests (beside (left_operand (class_of o) (expression a)) (right_operand (class_of o) (expression b))) (λ p. says (binary (class_of o) o place p))
node_rule env (node.Cast t a) place = rests (a_value (expression a)) (λ o. says (cast place t o))
node_rule env (node.SizeOf t) place = says (sized env.structs place t)
node_rule env (node.AlignOf t) place = says (aligned env.structs place t)
node_rule env (node.Field a f) place = rests (expression a) (λ x. says (dot env.structs place f x))
node_rule env (node.Arrow a f) place = rests (a_pointer (expression a)) (λ p. says (arrow env.structs place f p))
node_rule env (node.Index a i) place = rests (beside (an_array env.structs (expression a)) (an_integer (expression i))) (λ p. says (element place p))
node_rule env (node.Deref a) place = rests (a_pointer (expression a)) (λ p. says (pointed place p))
node_rule env (node.AddressOf a) place = rests (expression a) (λ x. says (address place x))

abbrev pub expression_rule : Environment → Expr → Rule sort.found
expression_rule env e = node_rule env (out-ExprNode e.node) e.place

-- ---- assignments

abbrev pub passed : Option CType → Rule sort.found → Rule sort.value
passed t r = rests (a_value r) (λ o. says (passed_by t o))

abbrev pub set_value : ℕ → CType → Found → Rule sort.statement
set_value x t f = rests (value_of f) (λ o. says (unless (wants t o) (Set x o.value)))

-- a read is the whole right side, and so in normal form; an array is its address
abbrev pub set_memory : ℕ → CType → Found → Lval → Option CType → Rule sort.statement
set_memory x t f l None = says (unless (wants_type f.place t f.typ) (Load x l))
set_memory x t f l (Some element) = set_value x t f

abbrev pub set_form : ℕ → CType → Found → Form → Rule sort.statement
set_form x t f form.Zero = set_value x t f
set_form x t f (form.Value e) = set_value x t f
set_form x t f (form.Temporary y) = set_value x t f
set_form x t f (form.Memory l) = set_memory x t f l (element_of f.typ)
set_form x t f (form.Test at a b equal) = set_value x t f

abbrev pub store : Lval → CType → Found → Rule sort.statement
store l t f = rests (value_of f) (λ o. says (unless (wants t o) (Store l o.value)))

abbrev pub assign_to : CType → Found → Destination → Rule sort.statement
assign_to t f (to.Temporary x) = set_form x t f f.form
assign_to t f (to.Memory l) = store l t f

abbrev pub assignment : Expr → Expr → Rule sort.statement
assignment left right = rests (beside (a_target (expression left)) (expression right)) (λ p. assign_to p.0.typ p.1 p.0.to)

-- ---- calls

abbrev pub one_more : Rule sort.values → Rule sort.value → Rule sort.values
one_more r q = rests (beside r q) (λ p. says (with_last p))

-- the arguments from the k-th on, behind those that are there
abbrev pub arguments : List Field → ℕ → Rule sort.values → List Expr → Rule sort.values
arguments params k sofar [] = sofar
arguments params k sofar (e ∷ es) = arguments params (k + 1) (one_more sofar (passed (wanted_at params k) (expression e))) es

abbrev pub destination : Option Expr → Rule sort.destination
destination None = says (fine None)
destination (Some e) = rests (a_target (expression e)) (λ t. says (fine (Some t)))

-- where a result of a type goes
abbrev pub result_of : ℕ → Option Expr → Rule sort.typ → Rule sort.result
result_of place target r = rests (beside (destination target) r) (λ p. says (delivered place p.1 p.0))

abbrev pub call_function : Environment → ℕ → Option Expr → List ℕ → List Expr → Rule sort.statement
call_function env place target name args =
    rests (beside (result_of place target (says (known place name (length args) (function_of env name)))) (arguments (params_of (function_of env name)) 0 (says (fine [])) args))
    (λ p. says (fine (Call p.0 name p.1)))

abbrev pub argument : ℕ → CType → Option Expr → Rule sort.value
argument place t None = says (Untyped (disagrees place))
argument place t (Some e) = passed (Some t) (expression e)

abbrev pub call_builtin : ℕ → Option Expr → Builtin → List Expr → Rule sort.statement
call_builtin place target b args =
    rests (beside (result_of place target (says (fine Void))) (argument place (parameter_of b) (one_of args))) (λ p. says (fine (builtin_statement b p.1)))

abbrev pub malloc_result : ℕ → Option Expr → Rule sort.result
malloc_result place None = says (Untyped (disagrees place))
malloc_result place (Some e) = result_of place (Some e) (says (fine (pointer_to Void)))

abbrev pub malloc_size : Environment → ℕ → Option Expr → Rule sort.cells
malloc_size env place e = says (malloc_cells env place e)

abbrev pub call_malloc : Environment → ℕ → Option Expr → List Expr → Rule sort.statement
call_malloc env place target args = rests (beside (malloc_result place target) (malloc_size env place (one_of args))) (λ p. says (fine (malloc_statement p.0 p.1)))

-- what a thread is started with, by the function
abbrev pub started : Environment → ℕ → List ℕ → Rule sort.typ
started env at name = says (starts_by at name (function_of env name))

abbrev pub spawned : Environment → ℕ → List ℕ → Expr → Rule sort.value
spawned env at name e = rests (beside (started env at name) (a_value (expression e))) (λ p. says (passed_by (Some p.0) p.1))

-- the function that a thread runs, and its argument
abbrev pub thread_named : Environment → ℕ → Expr → Expr → Option (List ℕ) → Rule sort.thread
thread_named env place f e None = says (Untyped (disagrees place))
thread_named env place f e (Some name) = rests (spawned env f.place name e) (λ v. says (fine (name, v)))

abbrev pub thread : Environment → ℕ → Option (Expr × Expr) → Rule sort.thread
thread env place None = says (Untyped (disagrees place))
thread env place (Some p) = thread_named env place p.0 p.1 (name_of p.0)

abbrev pub call_spawn : Environment → ℕ → Option Expr → List Expr → Rule sort.statement
call_spawn env place target args = rests (beside (result_of place target (says (fine Void))) (thread env place (two_of args))) (λ p. says (fine (Spawn p.1.0 p.1.1)))

abbrev pub call_by : Environment → ℕ → Option Expr → List ℕ → List Expr → Option Builtin → Rule sort.statement
call_by env place target name args None = call_function env place target name args
call_by env place target name args (Some b) = call_builtin place target b args

abbrev pub call_rule : Environment → ℕ → Option Expr → List ℕ → List Expr → Rule sort.statement
call_rule env place target name args =
    if bytes_eq name (codes "malloc") then call_malloc env place target args
    else if bytes_eq name (codes "spawn") then call_spawn env place target args
    else call_by env place target name args (builtin_of name)

-- ---- statements

abbrev pub tested : Expr → Rule sort.test
tested e = rests (a_condition (expression e)) (λ c. says (fine c.test))

abbrev pub returned : Environment → ℕ → Option Expr → Rule sort.statement
returned env place None = says (unless (cond (is_void env.returned) None (Some (fault.Mismatch place env.returned Void))) (Return None))
returned env place (Some e) = rests (passed (Some env.returned) (expression e)) (λ v. says (fine (Return (Some v))))

-- statements in order, behind those that are there
abbrev pub gathered : Rule sort.statements → List Stmt → Rule sort.statements
gathered sofar [] = sofar
gathered sofar (s ∷ ss) = gathered (rests (beside sofar (statement s)) (λ p. says (with_last p))) ss

abbrev pub block : List Stmt → Rule sort.statements
block ss = gathered (says (fine [])) ss

-- a statement at a place; `while` is a loop that ends where the condition fails
abbrev pub statement_node_rule : Environment → StmtNode-F StmtNode Stmt → ℕ → Rule sort.statement
statement_node_rule env stmt.Skip place = says (fine Skip)
statement_node_rule env (stmt.Assign left right) place = assignment left right
statement_node_rule env (stmt.Call target name args) place = call_rule env place target name args
statement_node_rule env (stmt.If e a b) place = rests (beside (tested e) (beside (block a) (block b))) (λ p. says (fine (If p.0 p.1.0 p.1.1)))
statement_node_rule env (stmt.While e a) place = rests (beside (tested e) (block a)) (λ p. says (fine (Loop (If p.0 p.1 (Break ∷ []) ∷ []))))
statement_node_rule env stmt.Break place = says (fine Break)
statement_node_rule env stmt.Continue place = says (fine Continue)
statement_node_rule env (stmt.Return e) place = returned env place e

abbrev pub statement_rule : Environment → Stmt → Rule sort.statement
statement_rule env s = statement_node_rule env (out-StmtNode s.node) s.place
