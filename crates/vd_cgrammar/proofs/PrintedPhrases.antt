-- The tokens of each kind of expression.
use Rattle.std.proofs.Common.{ℕ, ◌+◌, ◌<◌, ◌≤◌, ◌≡◌, Bool, true, false, List, ◌∷◌, ◌++◌, refl, ◌∙◌, ap, codes, arith}
use Rattle.std.specs.Prelude.{nat_lt, if◌then◌else◌}
use Rattle.std.proofs.lemmas.Bool.{lt-ltb, ltb-true}
use Rattle.vd_base.specs.declared.ctype.CType.{CType}
use Rattle.vd_clight.specs.declared.syntax.UnOp.{UnOp}
use Rattle.vd_clight.specs.declared.syntax.BinOp.{BinOp}
use Rattle.vd_clight.specs.declared.syntax.Expr.{Expr, fold_out-Expr}
use Rattle.vd_clight.specs.declared.syntax.ExprNode.{ExprNode, ExprNode-F, out-ExprNode, fold_out-ExprNode, map-ExprNode}
use Rattle.vd_clight.specs.declared.syntax.ExprNode.TheVariants as e
use Rattle.vd_clight.specs.declared.syntax.ExprNode.TheVariants.{outs-Num, outs-Ident, outs-Unary, outs-Binary, outs-Cast, outs-SizeOf, outs-AlignOf, outs-Field, outs-Arrow, outs-Index, outs-Deref, outs-AddressOf}
use Rattle.vd_clight.specs.Printed.{Words, Phrase, Placed, one, bracketed, type_words, number_text, prefix_text, operator_text, precedence, of_prefixes, of_suffixes, of_atoms, expression_layer, node_layer, phrase, operand}
use Rattle.vd_cgrammar.specs.Precedence.{node_of}

abbrev over : ExprNode-F ExprNode Expr → Phrase
over l = node_layer (map-ExprNode ExprNode Expr Phrase Placed phrase operand l)

phrase_is : (n : ExprNode) (l : ExprNode-F ExprNode Expr) → out-ExprNode n ≡ l → phrase n ≡ over l
unfolding phrase operand
phrase_is n l h = fold_out-ExprNode Phrase Placed node_layer expression_layer n ∙ ap over h

abbrev pub in_place : Phrase → Placed
in_place p least = if nat_lt p.strength_of least then bracketed p.words else p.words

pub operand_is : (x : Expr) → operand x ≡ in_place (phrase (node_of x))
unfolding phrase operand
operand_is x = fold_out-Expr Phrase Placed node_layer expression_layer x

-- an operand that binds tightly enough stands alone, another in brackets
pub alone : (x : Expr) (least : ℕ) → least ≤ (phrase (node_of x)).strength_of → operand x least ≡ (phrase (node_of x)).words
alone x least h = ap (λ f. f least) (operand_is x) ∙ rw (ltb-no (phrase (node_of x)).strength_of least h) refl
  where
    ltb-no : (a b : ℕ) → b ≤ a → nat_lt a b ≡ false
    ltb-no a b g = by_test (nat_lt a b) refl
      where
        by_test : (t : Bool) → nat_lt a b ≡ t → nat_lt a b ≡ false
        by_test false q = q
        by_test true q = absurd (omega (arith, g, ltb-true a b q))

pub in_brackets : (x : Expr) (least : ℕ) → (phrase (node_of x)).strength_of < least → operand x least ≡ bracketed (phrase (node_of x)).words
in_brackets x least h = ap (λ f. f least) (operand_is x) ∙ rw (lt-ltb (phrase (node_of x)).strength_of least h) refl

-- an expression's tokens, and how tightly it binds
abbrev pub said : Words → ℕ → Phrase
said ws n = record { words = ws; strength_of = n }

pub number_is : (n : ℕ) (u : Bool) → phrase (e.Num n u) ≡ said (one (number_text n u)) of_atoms
number_is n u = phrase_is (e.Num n u) _ (outs-Num n u)

pub ident_is : (w : List ℕ) → phrase (e.Ident w) ≡ said (one w) of_atoms
ident_is w = phrase_is (e.Ident w) _ (outs-Ident w)

pub unary_is : (o : UnOp) (x : Expr) → phrase (e.Unary o x) ≡ said (prefix_text o ∷ operand x of_prefixes) of_prefixes
unary_is o x = phrase_is (e.Unary o x) _ (outs-Unary o x)

pub binary_is : (o : BinOp) (x y : Expr) → phrase (e.Binary o x y) ≡ said (operand x (precedence o) ++ operator_text o ∷ operand y (precedence o + 1)) (precedence o)
binary_is o x y = phrase_is (e.Binary o x y) _ (outs-Binary o x y)

pub cast_is : (t : CType) (x : Expr) → phrase (e.Cast t x) ≡ said ((codes "(" ∷ type_words t) ++ codes ")" ∷ operand x of_prefixes) of_prefixes
cast_is t x = phrase_is (e.Cast t x) _ (outs-Cast t x)

pub sizeof_is : (t : CType) → phrase (e.SizeOf t) ≡ said (codes "sizeof" ∷ bracketed (type_words t)) of_prefixes
sizeof_is t = phrase_is (e.SizeOf t) _ (outs-SizeOf t)

pub alignof_is : (t : CType) → phrase (e.AlignOf t) ≡ said (codes "alignof" ∷ bracketed (type_words t)) of_prefixes
alignof_is t = phrase_is (e.AlignOf t) _ (outs-AlignOf t)

pub field_is : (x : Expr) (f : List ℕ) → phrase (e.Field x f) ≡ said (operand x of_suffixes ++ codes "." ∷ one f) of_suffixes
field_is x f = phrase_is (e.Field x f) _ (outs-Field x f)

pub arrow_is : (x : Expr) (f : List ℕ) → phrase (e.Arrow x f) ≡ said (operand x of_suffixes ++ codes "->" ∷ one f) of_suffixes
arrow_is x f = phrase_is (e.Arrow x f) _ (outs-Arrow x f)

pub index_is : (x y : Expr) → phrase (e.Index x y) ≡ said (operand x of_suffixes ++ codes "[" ∷ operand y 0 ++ one (codes "]")) of_suffixes
index_is x y = phrase_is (e.Index x y) _ (outs-Index x y)

pub deref_is : (x : Expr) → phrase (e.Deref x) ≡ said (codes "*" ∷ operand x of_prefixes) of_prefixes
deref_is x = phrase_is (e.Deref x) _ (outs-Deref x)

pub address_is : (x : Expr) → phrase (e.AddressOf x) ≡ said (codes "&" ∷ operand x of_prefixes) of_prefixes
address_is x = phrase_is (e.AddressOf x) _ (outs-AddressOf x)
