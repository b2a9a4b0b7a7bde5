-- Statements at a place: their tokens, and when they are the same, places apart.
use Rattle.std.proofs.Common.{ℕ, ◌≡◌, List, ◌∷◌, ◌++◌, map, codes, Option, Some, sym, ◌∙◌, ap, append_assoc}
use Rattle.std.specs.Prelude.{option_map}
use Rattle.vd_clight.specs.declared.syntax.Expr.{Expr, out-Expr}
use Rattle.vd_clight.specs.declared.syntax.ExprNode.TheVariants as e
use Rattle.vd_clight.specs.declared.syntax.Stmt.{Stmt, out-Stmt, out-roll-Stmt, fold_out-Stmt}
use Rattle.vd_clight.specs.declared.syntax.StmtNode.{StmtNode, StmtNode-F, out-StmtNode, fold_out-StmtNode, map-StmtNode}
use Rattle.vd_clight.specs.declared.syntax.StmtNode.TheVariants as s
use Rattle.vd_clight.specs.declared.syntax.StmtNode.TheVariants.{outs-Assign, outs-Call, outs-If, outs-While, outs-Return}
use Rattle.vd_clight.specs.Printed.{Words, one, listed, expression_words, statement_node_layer, statement_layer, node_statement_words, statement_words}
use Rattle.vd_cgrammar.specs.declared.parts.Source.{Source}
use Rattle.vd_cgrammar.specs.declared.parts.Source.TheVariants as source
use Rattle.vd_cgrammar.specs.Syntax.{at, called, stmt_at, assigned}
use Rattle.vd_cgrammar.proofs.SameNodes.{same_unplaced, same_at}
use Rattle.vd_cgrammar.specs.Unplaced.{unplaced_node, unplaced, unplaced_statement_node_layer, unplaced_statement_layer, unplaced_statement_node, unplaced_statement, SameStatement}

-- ---- tokens

abbrev worded : StmtNode-F StmtNode Stmt → Words
worded l = statement_node_layer (map-StmtNode StmtNode Stmt Words Words node_statement_words statement_words l)

words_of_node : (n : StmtNode) → node_statement_words n ≡ worded (out-StmtNode n)
unfolding statement_words node_statement_words
words_of_node n = fold_out-StmtNode Words Words statement_node_layer statement_layer n

words_of_statement : (x : Stmt) → statement_words x ≡ node_statement_words (out-Stmt x).node
unfolding statement_words node_statement_words
words_of_statement x = fold_out-Stmt Words Words statement_node_layer statement_layer x

-- the tokens of a statement at a place
pub words_at : (place : ℕ) (n : StmtNode) (l : StmtNode-F StmtNode Stmt) → out-StmtNode n ≡ l → statement_words (stmt_at place n) ≡ worded l
words_at place n l h =
    words_of_statement (stmt_at place n)
    ∙ (ap (λ z. node_statement_words z.node) (out-roll-Stmt (record { place = place; node = n })) ∙ (words_of_node n ∙ ap worded h))

-- ---- places apart

abbrev over : StmtNode-F StmtNode Stmt → StmtNode
over l = unplaced_statement_node_layer (map-StmtNode StmtNode Stmt StmtNode Stmt unplaced_statement_node unplaced_statement l)

node_is : (n : StmtNode) → unplaced_statement_node n ≡ over (out-StmtNode n)
unfolding unplaced_statement unplaced_statement_node
node_is n = fold_out-StmtNode StmtNode Stmt unplaced_statement_node_layer unplaced_statement_layer n

statement_is : (x : Stmt) → unplaced_statement x ≡ stmt_at 0 (unplaced_statement_node (out-Stmt x).node)
unfolding unplaced_statement unplaced_statement_node
statement_is x = fold_out-Stmt StmtNode Stmt unplaced_statement_node_layer unplaced_statement_layer x

at_place : (place : ℕ) (n : StmtNode) → unplaced_statement (stmt_at place n) ≡ stmt_at 0 (unplaced_statement_node n)
at_place place n = statement_is (stmt_at place n) ∙ ap (λ z. stmt_at 0 (unplaced_statement_node z.node)) (out-roll-Stmt (record { place = place; node = n }))

-- a statement without its places
pub unplaced_at : (place : ℕ) (n : StmtNode) (l : StmtNode-F StmtNode Stmt) → out-StmtNode n ≡ l → unplaced_statement (stmt_at place n) ≡ stmt_at 0 (over l)
unplaced_at place n l h = at_place place n ∙ ap (stmt_at 0) (node_is n ∙ ap over h)

-- the place is no part of it
pub same_at_places : (p q : ℕ) (n : StmtNode) → SameStatement (stmt_at p n) (stmt_at q n)
same_at_places p q n = at_place p n ∙ sym (at_place q n)

module _ (p q : ℕ) (x y : Expr) (h : unplaced x ≡ unplaced y) where
  pub same_assign : (u v : Expr) → unplaced u ≡ unplaced v → SameStatement (stmt_at p (s.Assign x u)) (stmt_at q (s.Assign y v))
  same_assign u v g =
      unplaced_at p (s.Assign x u) _ (outs-Assign x u)
      ∙ (ap (λ z. stmt_at 0 (s.Assign z (unplaced u))) h ∙ (ap (λ z. stmt_at 0 (s.Assign (unplaced y) z)) g ∙ sym (unplaced_at q (s.Assign y v) _ (outs-Assign y v))))

  module _ (a b : List Stmt) (g : map unplaced_statement a ≡ map unplaced_statement b) where
    pub same_while : SameStatement (stmt_at p (s.While x a)) (stmt_at q (s.While y b))
    same_while =
        unplaced_at p (s.While x a) _ (outs-While x a)
        ∙ (ap (λ z. stmt_at 0 (s.While z (map unplaced_statement a))) h ∙ (ap (λ z. stmt_at 0 (s.While (unplaced y) z)) g ∙ sym (unplaced_at q (s.While y b) _ (outs-While y b))))

    pub same_if : (c d : List Stmt) → map unplaced_statement c ≡ map unplaced_statement d → SameStatement (stmt_at p (s.If x a c)) (stmt_at q (s.If y b d))
    same_if c d k =
        unplaced_at p (s.If x a c) _ (outs-If x a c)
        ∙ (ap (λ z. stmt_at 0 (s.If z (map unplaced_statement a) (map unplaced_statement c))) h
        ∙ (ap (λ z. stmt_at 0 (s.If (unplaced y) z (map unplaced_statement c))) g
        ∙ (ap (λ z. stmt_at 0 (s.If (unplaced y) (map unplaced_statement b) z)) k ∙ sym (unplaced_at q (s.If y b d) _ (outs-If y b d)))))

pub same_return : (p q : ℕ) (x y : Option Expr) → option_map unplaced x ≡ option_map unplaced y → SameStatement (stmt_at p (s.Return x)) (stmt_at q (s.Return y))
same_return p q x y h = unplaced_at p (s.Return x) _ (outs-Return x) ∙ (ap (λ z. stmt_at 0 (s.Return z)) h ∙ sym (unplaced_at q (s.Return y) _ (outs-Return y)))

pub same_call : (p q : ℕ) (x y : Option Expr) (f g : List ℕ) (a b : List Expr) → option_map unplaced x ≡ option_map unplaced y → f ≡ g → map unplaced a ≡ map unplaced b
    → SameStatement (stmt_at p (s.Call x f a)) (stmt_at q (s.Call y g b))
same_call p q x y f g a b h i k =
    unplaced_at p (s.Call x f a) _ (outs-Call x f a)
    ∙ (ap (λ z. stmt_at 0 (s.Call z f (map unplaced a))) h ∙ (ap (λ z. stmt_at 0 (s.Call (option_map unplaced y) z (map unplaced a))) i
    ∙ (ap (λ z. stmt_at 0 (s.Call (option_map unplaced y) g z)) k ∙ sym (unplaced_at q (s.Call y g b) _ (outs-Call y g b)))))

-- ---- what is assigned

pub unplaced_source : Source → Source
unplaced_source (source.Value x) = source.Value (unplaced x)
unplaced_source (source.Call f es) = source.Call f (map unplaced es)

pub same_value_source : (x y : Expr) → unplaced x ≡ unplaced y → unplaced_source (source.Value x) ≡ unplaced_source (source.Value y)
unfolding unplaced_source
same_value_source x y h = ap source.Value h

pub same_call_source : (f g : List ℕ) (a b : List Expr) → f ≡ g → map unplaced a ≡ map unplaced b → unplaced_source (source.Call f a) ≡ unplaced_source (source.Call g b)
unfolding unplaced_source
same_call_source f g a b h i = ap (λ z. source.Call z (map unplaced a)) h ∙ ap (λ z. source.Call g z) i

pub same_called : (f g : List ℕ) (a b : List Expr) → f ≡ g → a ≡ b → called 0 f a ≡ called 0 g b
same_called f g a b h i = ap (λ z. called 0 z a) h ∙ ap (λ z. called 0 g z) i

-- a name that stands alone
pub same_name : (p q : ℕ) (v w : List ℕ) → v ≡ w → unplaced (at p (e.Ident v)) ≡ unplaced (at q (e.Ident w))
same_name p q v w h = same_unplaced (at p (e.Ident v)) (at q (e.Ident w)) (same_at p q (e.Ident v) (e.Ident w) (ap (λ z. unplaced_node (e.Ident z)) h))

abbrev assigned_node : Expr → Source → StmtNode
assigned_node x (source.Value y) = s.Assign x y
assigned_node x (source.Call f es) = s.Call (Some x) f es

unplaced_assigned : (x : Expr) (r : Source) → unplaced_statement (assigned x r) ≡ stmt_at 0 (assigned_node (unplaced x) (unplaced_source r))
unfolding unplaced_source
unplaced_assigned x (source.Value y) = unplaced_at (out-Expr x).place (s.Assign x y) _ (outs-Assign x y)
unplaced_assigned x (source.Call f es) = unplaced_at (out-Expr x).place (s.Call (Some x) f es) _ (outs-Call (Some x) f es)

pub same_assigned : (x y : Expr) (r q : Source) → unplaced x ≡ unplaced y → unplaced_source r ≡ unplaced_source q → SameStatement (assigned x r) (assigned y q)
same_assigned x y r q h g =
    unplaced_assigned x r ∙ (ap (λ z. stmt_at 0 (assigned_node z (unplaced_source r))) h ∙ (ap (λ z. stmt_at 0 (assigned_node (unplaced y) z)) g ∙ sym (unplaced_assigned y q)))

-- what is assigned, and the semicolon
abbrev pub source_words : Source → Words
source_words (source.Value x) = expression_words x ++ one (codes ";")
source_words (source.Call f es) = f ∷ codes "(" ∷ listed (map expression_words es) ++ codes ")" ∷ one (codes ";")

pub assigned_words : (x : Expr) (r : Source) → statement_words (assigned x r) ≡ expression_words x ++ codes "=" ∷ source_words r
assigned_words x (source.Value y) =
    words_at (out-Expr x).place (s.Assign x y) _ (outs-Assign x y) ∙ append_assoc (expression_words x) (codes "=" ∷ expression_words y) (one (codes ";"))
assigned_words x (source.Call f es) =
    let front = f ∷ codes "(" ∷ listed (map expression_words es) in
    let back = codes ")" ∷ one (codes ";") in
    words_at (out-Expr x).place (s.Call (Some x) f es) _ (outs-Call (Some x) f es)
    ∙ (append_assoc (expression_words x ++ one (codes "=")) front back ∙ append_assoc (expression_words x) (one (codes "=")) (front ++ back))
