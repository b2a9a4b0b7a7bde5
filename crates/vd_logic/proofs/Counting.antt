-- The nodes of a term, by its outermost layer.
use Rattle.std.proofs.Common.{◌≡◌, ℕ, ℤ, suc, List, map, sum}
use Rattle.vd_base.specs.declared.name.Name.{Name}
use Rattle.vd_logic.specs.declared.term.Op.{Op}
use Rattle.vd_logic.specs.declared.term.Sort.{Sort}
use Rattle.vd_logic.specs.declared.term.Term.{Term, Num, Var, Named, Global, App}
use Rattle.vd_logic.specs.Nodes.{term_nodes, nodes_layer}
use Rattle.vd_logic.specs.Layers.{fold-Num, fold-Var, fold-Named, fold-Global, fold-App}

pub term_nodes-App : (op : Op) (args : List Term) → term_nodes (App op args) ≡ suc (sum (map term_nodes args))
unfolding term_nodes
term_nodes-App op args = fold-App nodes_layer op args

pub term_nodes-Num : (n : ℤ) → term_nodes (Num n) ≡ 1
unfolding term_nodes
term_nodes-Num n = fold-Num nodes_layer n

pub term_nodes-Var : (i : ℕ) (s : Sort) → term_nodes (Var i s) ≡ 1
unfolding term_nodes
term_nodes-Var i s = fold-Var nodes_layer i s

pub term_nodes-Named : (n : Name) → term_nodes (Named n) ≡ 1
unfolding term_nodes
term_nodes-Named n = fold-Named nodes_layer n

pub term_nodes-Global : (n : Name) → term_nodes (Global n) ≡ 1
unfolding term_nodes
term_nodes-Global n = fold-Global nodes_layer n
