-- The checker's way of lists of statements, and of statements that hold them, agrees with their rules.
use Rattle.std.proofs.Common.{◌≡◌, ℕ, List, [], ◌∷◌, map, sym, ap, ◌∙◌, subst}
use Rattle.vd_clight.specs.declared.syntax.Stmt.{Stmt, Stmt-F, ind-Stmt, roll-Stmt, out-roll-Stmt, map-Stmt, fold_out-Stmt}
use Rattle.vd_clight.specs.declared.syntax.StmtNode.{StmtNode, StmtNode-F, roll-StmtNode, out-StmtNode, out-roll-StmtNode, fold-StmtNode, fold_out-StmtNode, map-StmtNode}
use Rattle.vd_clight.specs.declared.syntax.StmtNode.TheOpen as stmt
use Rattle.vd_clight.specs.declared.typed.TStmt.{TStmt, Skip, If, Loop, Break, Continue}
use Rattle.vd_judge.specs.declared.checked.Checked.{Checked}
use Rattle.vd_judge.specs.Checked.{fine, pair, added, gathered, with_last}
use Rattle.vd_judge.specs.Environment.{Environment}
use Rattle.vd_judge.specs.Rule.{Rule, says, statement, rests, beside}
use Rattle.vd_judge.specs.Rules as rules
use Rattle.vd_judge.specs.Sort.{Meaning}
use Rattle.vd_judge.specs.Sort as sort
use Rattle.vd_judge.specs.CheckedStatement as checks
use Rattle.vd_judge.specs.CheckedStatement.{statement_node, statement_layer, typed_statement}
use Rattle.vd_judge.proofs.Agreement.{Agrees, agrees_says, agrees_both, agrees_statement}
use Rattle.vd_judge.proofs.Agreeing.{said_of_both}
use Rattle.vd_judge.proofs.Statements.{assignments, called, tested, returned}

module _ (env : Environment) where
  abbrev Stated : Stmt → Type 0
  Stated s = Agrees env (statement s) (typed_statement env s)

  abbrev Each : List Stmt → Type 0
  Each [] = Unit {0}
  Each (s ∷ ss) = Stated s × Each ss

  gathered_agrees : (ss : List Stmt) (r : Rule sort.statements) (c : Checked (List TStmt)) → Agrees env r c → Each ss → Agrees env (rules.gathered r ss) (gathered c (map (typed_statement env) ss))
  gathered_agrees [] r c a each = a
  gathered_agrees (s ∷ ss) r c a each =
      gathered_agrees ss (rests (beside r (statement s)) (λ p. says (with_last p))) (added c (typed_statement env s)) (said_of_both env r (statement s) c (typed_statement env s) with_last a each.0) each.1

  block_agrees : (ss : List Stmt) → Each ss → Agrees env (rules.block ss) (checks.block (map (typed_statement env) ss))
  block_agrees ss each = gathered_agrees ss (says (fine [])) (fine []) (agrees_says env (fine [])) each

  abbrev stated_node : StmtNode → ℕ → Checked TStmt
  stated_node = fold-StmtNode (ℕ → Checked TStmt) (Checked TStmt) (statement_node env) statement_layer

  abbrev opened : StmtNode-F StmtNode Stmt → StmtNode-F (ℕ → Checked TStmt) (Checked TStmt)
  opened l = map-StmtNode StmtNode Stmt (ℕ → Checked TStmt) (Checked TStmt) stated_node (typed_statement env) l

  stated_is : (s : Stmt) → typed_statement env s ≡ statement_node env (opened (out-StmtNode s.node)) s.place
  unfolding typed_statement
  stated_is s = fold_out-Stmt (ℕ → Checked TStmt) (Checked TStmt) (statement_node env) statement_layer s ∙ ap (λ n. n s.place) (fold_out-StmtNode (ℕ → Checked TStmt) (Checked TStmt) (statement_node env) statement_layer s.node)

  -- what holds of the statements within a statement
  abbrev Parts : StmtNode-F StmtNode Stmt → Type 0
  Parts stmt.Skip = Unit {0}
  Parts (stmt.Assign left right) = Unit {0}
  Parts (stmt.Call target name args) = Unit {0}
  Parts (stmt.If e a b) = Each a × Each b
  Parts (stmt.While e a) = Each a
  Parts stmt.Break = Unit {0}
  Parts stmt.Continue = Unit {0}
  Parts (stmt.Return e) = Unit {0}

  node_agrees : (l : StmtNode-F StmtNode Stmt) (place : ℕ) → Parts l → Agrees env (rules.statement_node_rule env l place) (statement_node env (opened l) place)
  node_agrees stmt.Skip place p = agrees_says env (fine Skip)
  node_agrees (stmt.Assign left right) place p = assignments env left right
  node_agrees (stmt.Call target name args) place p = called env place target name args
  node_agrees (stmt.If e a b) place p =
      let yes_ = checks.block (map (typed_statement env) a) in
      let other = checks.block (map (typed_statement env) b) in
      said_of_both env (rules.tested e) (beside (rules.block a) (rules.block b)) (checks.tested env e) (pair yes_ other) (λ q. fine (If q.0 q.1.0 q.1.1)) (tested env e)
      (agrees_both env (rules.block a) (rules.block b) yes_ other (block_agrees a p.0) (block_agrees b p.1))
  node_agrees (stmt.While e a) place p =
      said_of_both env (rules.tested e) (rules.block a) (checks.tested env e) (checks.block (map (typed_statement env) a)) (λ q. fine (Loop (If q.0 q.1 (Break ∷ []) ∷ []))) (tested env e) (block_agrees a p)
  node_agrees stmt.Break place p = agrees_says env (fine Break)
  node_agrees stmt.Continue place p = agrees_says env (fine Continue)
  node_agrees (stmt.Return e) place p = returned env place e

  stated_step : (s : Stmt) → Parts (out-StmtNode s.node) → Stated s
  stated_step s p = agrees_statement env s (typed_statement env s) (subst (Agrees env (rules.statement_rule env s)) (sym (stated_is s)) (node_agrees (out-StmtNode s.node) s.place p))

  -- ---- induction

  abbrev NodeStated : StmtNode → Type 0
  NodeStated n = Parts (out-StmtNode n)

  abbrev StatedNode : Type 0
  StatedNode = (n : StmtNode) × NodeStated n

  abbrev StatedStmt : Type 0
  StatedStmt = (s : Stmt) × Stated s

  each_of : (ss : List StatedStmt) → Each (map (λ s. s.0) ss)
  each_of [] = tt
  each_of (s ∷ ss) = (s.1, each_of ss)

  parts_of : (y : StmtNode-F StatedNode StatedStmt) → Parts (map-StmtNode StatedNode StatedStmt StmtNode Stmt (λ n. n.0) (λ s. s.0) y)
  parts_of stmt.Skip = tt
  parts_of (stmt.Assign left right) = tt
  parts_of (stmt.Call target name args) = tt
  parts_of (stmt.If e a b) = (each_of a, each_of b)
  parts_of (stmt.While e a) = each_of a
  parts_of stmt.Break = tt
  parts_of stmt.Continue = tt
  parts_of (stmt.Return e) = tt

  node_stated : (x : StmtNode-F StmtNode Stmt) (y : StmtNode-F StatedNode StatedStmt) → map-StmtNode StatedNode StatedStmt StmtNode Stmt (λ n. n.0) (λ s. s.0) y ≡ x → NodeStated (roll-StmtNode x)
  node_stated x y is = subst Parts (sym (out-roll-StmtNode x)) (subst Parts is (parts_of y))

  rolled : (x : Stmt-F StmtNode Stmt) → NodeStated x.node → Stated (roll-Stmt x)
  rolled x p = stated_step (roll-Stmt x) (subst (λ z. NodeStated z.node) (sym (out-roll-Stmt x)) p)

  stmt_stated : (x : Stmt-F StmtNode Stmt) (y : Stmt-F StatedNode StatedStmt) → map-Stmt StatedNode StatedStmt StmtNode Stmt (λ n. n.0) (λ s. s.0) y ≡ x → Stated (roll-Stmt x)
  stmt_stated x y is = rolled x (subst (λ z. NodeStated z.node) is y.node.1)

  statement_agrees : (s : Stmt) → Stated s
  statement_agrees s = ind-Stmt NodeStated Stated node_stated stmt_stated s

  all_stated : (ss : List Stmt) → Each ss
  all_stated [] = tt
  all_stated (s ∷ ss) = (statement_agrees s, all_stated ss)

  -- the statements of a function
  pub body_agrees : (ss : List Stmt) → Agrees env (rules.block ss) (checks.block (map (typed_statement env) ss))
  body_agrees ss = block_agrees ss (all_stated ss)
