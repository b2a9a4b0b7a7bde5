-- The tokens of each kind of statement.
use Rattle.std.proofs.Common.{◌≡◌, ℕ, List, [], ◌∷◌, ◌++◌, Option, codes, map, refl, sym, ◌∙◌, ap, append_assoc}
use Rattle.std.proofs.lemmas.List.Folds.{flat_map-map}
use Rattle.vd_clight.specs.declared.syntax.Expr.{Expr}
use Rattle.vd_clight.specs.declared.syntax.Stmt.{Stmt, fold_out-Stmt}
use Rattle.vd_clight.specs.declared.syntax.StmtNode.{StmtNode, StmtNode-F, out-StmtNode, fold_out-StmtNode, map-StmtNode}
use Rattle.vd_clight.specs.declared.syntax.StmtNode.TheVariants.{Skip, Assign, Call, If, While, Break, Continue, Return, outs-Skip, outs-Assign, outs-Call, outs-If, outs-While, outs-Break, outs-Continue, outs-Return}
use Rattle.vd_clight.specs.Printed.{Words, one, listed, expression_words, target_words, result_words, block_words, else_words, braces, else_braces, statement_node_layer, statement_layer, node_statement_words, statement_words}

pub statement_is : (s : Stmt) → statement_words s ≡ node_statement_words s.node
unfolding statement_words node_statement_words
statement_is s = fold_out-Stmt Words Words statement_node_layer statement_layer s

abbrev over : StmtNode-F StmtNode Stmt → Words
over l = statement_node_layer (map-StmtNode StmtNode Stmt Words Words node_statement_words statement_words l)

pub node_is : (n : StmtNode) (l : StmtNode-F StmtNode Stmt) → out-StmtNode n ≡ l → node_statement_words n ≡ over l
unfolding statement_words node_statement_words
node_is n l h = fold_out-StmtNode Words Words statement_node_layer statement_layer n ∙ ap over h

block_is : (ss : List Stmt) → block_words (map statement_words ss) ≡ braces ss
block_is ss = ap (λ x. codes "{" ∷ x ++ one (codes "}")) (flat_map-map (λ w. w) statement_words ss)

else_is : (ss : List Stmt) → else_words (map statement_words ss) ≡ else_braces ss
else_is [] = refl
else_is (s ∷ ss) = ap (λ x. codes "else" ∷ x) (block_is (s ∷ ss))

by_node : (s : Stmt) (n : StmtNode) (l : StmtNode-F StmtNode Stmt) → s.node ≡ n → out-StmtNode n ≡ l → statement_words s ≡ over l
by_node s n l h g = statement_is s ∙ (ap node_statement_words h ∙ node_is n l g)

pub skip_is : (s : Stmt) → s.node ≡ Skip → statement_words s ≡ one (codes ";")
skip_is s h = by_node s Skip _ h outs-Skip

pub assign_is : (s : Stmt) (d e : Expr) → s.node ≡ Assign d e → statement_words s ≡ expression_words d ++ codes "=" ∷ expression_words e ++ one (codes ";")
assign_is s d e h = by_node s (Assign d e) _ h (outs-Assign d e)

pub call_is : (s : Stmt) (to : Option Expr) (f : List ℕ) (es : List Expr) → s.node ≡ Call to f es
    → statement_words s ≡ target_words to ++ f ∷ codes "(" ∷ listed (map expression_words es) ++ codes ")" ∷ one (codes ";")
call_is s to f es h = by_node s (Call to f es) _ h (outs-Call to f es)

-- a word and an expression in brackets
abbrev pub condition_words : List ℕ → Expr → Words
condition_words w e = w ∷ codes "(" ∷ expression_words e ++ one (codes ")")

condition_first : (w : List ℕ) (e : Expr) (ws : Words) → w ∷ codes "(" ∷ expression_words e ++ codes ")" ∷ ws ≡ condition_words w e ++ ws
condition_first w e ws = ap (λ x. w ∷ codes "(" ∷ x) (sym (append_assoc (expression_words e) (one (codes ")")) ws))

pub if_is : (s : Stmt) (e : Expr) (a b : List Stmt) → s.node ≡ If e a b → statement_words s ≡ condition_words (codes "if") e ++ braces a ++ else_braces b
if_is s e a b h = by_node s (If e a b) _ h (outs-If e a b)
    ∙ (ap (λ x. codes "if" ∷ codes "(" ∷ expression_words e ++ codes ")" ∷ x ++ else_words (map statement_words b)) (block_is a)
    ∙ (ap (λ x. codes "if" ∷ codes "(" ∷ expression_words e ++ codes ")" ∷ braces a ++ x) (else_is b)
    ∙ ap (λ x. x ++ else_braces b) (condition_first (codes "if") e (braces a))))

pub while_is : (s : Stmt) (e : Expr) (a : List Stmt) → s.node ≡ While e a → statement_words s ≡ condition_words (codes "while") e ++ braces a
while_is s e a h = by_node s (While e a) _ h (outs-While e a)
    ∙ (ap (λ x. codes "while" ∷ codes "(" ∷ expression_words e ++ codes ")" ∷ x) (block_is a) ∙ condition_first (codes "while") e (braces a))

pub break_is : (s : Stmt) → s.node ≡ Break → statement_words s ≡ codes "break" ∷ one (codes ";")
break_is s h = by_node s Break _ h outs-Break

pub continue_is : (s : Stmt) → s.node ≡ Continue → statement_words s ≡ codes "continue" ∷ one (codes ";")
continue_is s h = by_node s Continue _ h outs-Continue

pub return_is : (s : Stmt) (e : Option Expr) → s.node ≡ Return e → statement_words s ≡ codes "return" ∷ result_words e ++ one (codes ";")
return_is s e h = by_node s (Return e) _ h (outs-Return e)
