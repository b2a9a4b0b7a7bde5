-- Expressions that are the same, places apart.
use Rattle.std.proofs.Common.{ℕ, ◌≡◌, List, [], ◌∷◌, refl, sym, ◌∙◌, ap}
use Rattle.vd_base.specs.declared.ctype.CType.{CType}
use Rattle.vd_clight.specs.declared.syntax.UnOp.{UnOp}
use Rattle.vd_clight.specs.declared.syntax.UnOp.TheVariants as unary
use Rattle.vd_clight.specs.declared.syntax.BinOp.{BinOp}
use Rattle.vd_clight.specs.declared.syntax.Expr.{Expr, out-roll-Expr, fold_out-Expr}
use Rattle.vd_clight.specs.declared.syntax.ExprNode.{ExprNode, ExprNode-F, roll-ExprNode, out-ExprNode, fold_out-ExprNode, map-ExprNode}
use Rattle.vd_clight.specs.declared.syntax.ExprNode.TheVariants as e
use Rattle.vd_clight.specs.declared.syntax.ExprNode.TheOpen as layer
use Rattle.vd_clight.specs.declared.syntax.ExprNode.TheVariants.{outs-Unary, outs-Binary, outs-Cast, outs-Field, outs-Arrow, outs-Index, outs-Deref, outs-AddressOf}
use Rattle.vd_cgrammar.specs.declared.kind.Kind.{Kind}
use Rattle.vd_cgrammar.specs.declared.kind.Kind.TheVariants as k
use Rattle.vd_cgrammar.specs.declared.parts.Postfix.{Postfix}
use Rattle.vd_cgrammar.specs.declared.parts.Postfix.TheVariants as postfix
use Rattle.vd_cgrammar.specs.Syntax.{at, prefixed, member_of, with_postfix, behind}
use Rattle.vd_cgrammar.specs.Precedence.{node_of}
use Rattle.vd_cgrammar.specs.Unplaced.{unplaced_layer, unplaced_node_layer, unplaced_node, unplaced, SameNode}

pub node_at : (place : ℕ) (n : ExprNode) → node_of (at place n) ≡ n
node_at place n = ap (λ l. l.node) (out-roll-Expr (record { place = place; node = n }))

unplaced_is : (x : Expr) → unplaced x ≡ at 0 (unplaced_node (node_of x))
unfolding unplaced unplaced_node
unplaced_is x = fold_out-Expr ExprNode Expr unplaced_node_layer unplaced_layer x

-- operands that are the same are equal without places
pub same_unplaced : (x y : Expr) → SameNode (node_of x) (node_of y) → unplaced x ≡ unplaced y
same_unplaced x y h = unplaced_is x ∙ (ap (at 0) h ∙ sym (unplaced_is y))

abbrev over : ExprNode-F ExprNode Expr → ExprNode
over l = roll-ExprNode (map-ExprNode ExprNode Expr ExprNode Expr unplaced_node unplaced l)

node_is : (n : ExprNode) (l : ExprNode-F ExprNode Expr) → out-ExprNode n ≡ l → unplaced_node n ≡ over l
unfolding unplaced unplaced_node
node_is n l h = fold_out-ExprNode ExprNode Expr unplaced_node_layer unplaced_layer n ∙ ap over h

module _ (x y : Expr) (h : SameNode (node_of x) (node_of y)) where
  pub same_unary : (o : UnOp) → SameNode (e.Unary o x) (e.Unary o y)
  same_unary o = node_is (e.Unary o x) _ (outs-Unary o x) ∙ (ap (λ z. roll-ExprNode (layer.Unary o z)) (same_unplaced x y h) ∙ sym (node_is (e.Unary o y) _ (outs-Unary o y)))

  pub same_deref : SameNode (e.Deref x) (e.Deref y)
  same_deref = node_is (e.Deref x) _ (outs-Deref x) ∙ (ap (λ z. roll-ExprNode (layer.Deref z)) (same_unplaced x y h) ∙ sym (node_is (e.Deref y) _ (outs-Deref y)))

  pub same_address : SameNode (e.AddressOf x) (e.AddressOf y)
  same_address = node_is (e.AddressOf x) _ (outs-AddressOf x) ∙ (ap (λ z. roll-ExprNode (layer.AddressOf z)) (same_unplaced x y h) ∙ sym (node_is (e.AddressOf y) _ (outs-AddressOf y)))

  pub same_cast : (t : CType) → SameNode (e.Cast t x) (e.Cast t y)
  same_cast t = node_is (e.Cast t x) _ (outs-Cast t x) ∙ (ap (λ z. roll-ExprNode (layer.Cast t z)) (same_unplaced x y h) ∙ sym (node_is (e.Cast t y) _ (outs-Cast t y)))

  pub same_field : (f : List ℕ) → SameNode (e.Field x f) (e.Field y f)
  same_field f = node_is (e.Field x f) _ (outs-Field x f) ∙ (ap (λ z. roll-ExprNode (layer.Field z f)) (same_unplaced x y h) ∙ sym (node_is (e.Field y f) _ (outs-Field y f)))

  pub same_arrow : (f : List ℕ) → SameNode (e.Arrow x f) (e.Arrow y f)
  same_arrow f = node_is (e.Arrow x f) _ (outs-Arrow x f) ∙ (ap (λ z. roll-ExprNode (layer.Arrow z f)) (same_unplaced x y h) ∙ sym (node_is (e.Arrow y f) _ (outs-Arrow y f)))

  pub same_prefixed : (kind : Kind) → SameNode (prefixed kind x) (prefixed kind y)
  same_prefixed k.Minus = same_unary unary.Minus
  same_prefixed k.Not = same_unary unary.Not
  same_prefixed k.Tilde = same_unary unary.Invert
  same_prefixed k.Star = same_deref
  same_prefixed _ = same_address

  pub same_member : (kind : Kind) (f : List ℕ) → SameNode (member_of kind x f) (member_of kind y f)
  same_member k.Arrow f = same_arrow f
  same_member _ f = same_field f

  module _ (u v : Expr) (g : SameNode (node_of u) (node_of v)) where
    pub same_binary : (o : BinOp) → SameNode (e.Binary o x u) (e.Binary o y v)
    same_binary o = node_is (e.Binary o x u) _ (outs-Binary o x u)
        ∙ (ap (λ z. roll-ExprNode (layer.Binary o z (unplaced u))) (same_unplaced x y h) ∙ (ap (λ z. roll-ExprNode (layer.Binary o (unplaced y) z)) (same_unplaced u v g)
        ∙ sym (node_is (e.Binary o y v) _ (outs-Binary o y v))))

    pub same_index : SameNode (e.Index x u) (e.Index y v)
    same_index = node_is (e.Index x u) _ (outs-Index x u)
        ∙ (ap (λ z. roll-ExprNode (layer.Index z (unplaced u))) (same_unplaced x y h) ∙ (ap (λ z. roll-ExprNode (layer.Index (unplaced y) z)) (same_unplaced u v g)
        ∙ sym (node_is (e.Index y v) _ (outs-Index y v))))

pub same_at : (p q : ℕ) (n m : ExprNode) → SameNode n m → SameNode (node_of (at p n)) (node_of (at q m))
same_at p q n m h = ap unplaced_node (node_at p n) ∙ (h ∙ sym (ap unplaced_node (node_at q m)))

same_postfix : (p q : ℕ) (n m : ExprNode) (s : Postfix) → SameNode n m → SameNode (with_postfix p n s) (with_postfix q m s)
same_postfix p q n m (postfix.Member kind f) h = same_member (at p n) (at q m) (same_at p q n m h) kind f
same_postfix p q n m (postfix.Index x) h = same_index (at p n) (at q m) (same_at p q n m h) x x refl

pub same_behind : (p q : ℕ) (n m : ExprNode) (ps : List Postfix) → SameNode n m → SameNode (node_of (behind p n ps)) (node_of (behind q m ps))
same_behind p q n m [] h = same_at p q n m h
same_behind p q n m (s ∷ ps) h = same_behind p q (with_postfix p n s) (with_postfix q m s) ps (same_postfix p q n m s h)
