-- The text of a function: its tokens with one space between each two, and as few brackets as precedence asks.
use Rattle.std.specs.Prelude.{ℕ, ◌+◌, Bool, true, false, List, [], ◌∷◌, ◌++◌, Option, None, Some, if◌then◌else◌, nat_lt, map, flat_map, codes, decimal}
use Rattle.std.specs.List.{join_with_byte}
use Rattle.vd_base.specs.declared.ctype.CType.{CType, CType-F, fold-CType}
use Rattle.vd_base.specs.declared.ctype.CType.TheOpen as typ
use Rattle.vd_base.specs.declared.ctype.Field.{Field}
use Rattle.vd_clight.specs.declared.syntax.UnOp.{UnOp}
use Rattle.vd_clight.specs.declared.syntax.UnOp.TheVariants as prefix
use Rattle.vd_clight.specs.declared.syntax.BinOp.{BinOp}
use Rattle.vd_clight.specs.declared.syntax.BinOp.TheVariants as op
use Rattle.vd_clight.specs.declared.syntax.Expr.{Expr, Expr-F, fold-Expr}
use Rattle.vd_clight.specs.declared.syntax.ExprNode.{ExprNode, ExprNode-F, fold-ExprNode}
use Rattle.vd_clight.specs.declared.syntax.ExprNode.TheOpen as node
use Rattle.vd_clight.specs.declared.syntax.FnText.{FnText}
use Rattle.vd_clight.specs.declared.syntax.Stmt.{Stmt, Stmt-F, fold-Stmt}
use Rattle.vd_clight.specs.declared.syntax.StmtNode.{StmtNode, StmtNode-F, fold-StmtNode}
use Rattle.vd_clight.specs.declared.syntax.StmtNode.TheOpen as statement

-- tokens, each as its bytes
abbrev pub Words : Type 0
Words = List (List ℕ)

-- the one token
abbrev pub one : List ℕ → Words
one w = w ∷ []

-- phrases with a comma between each two
abbrev pub listed : List Words → Words
listed [] = []
listed (x ∷ xs) = x ++ flat_map (λ y. codes "," ∷ y) xs

-- ---- types

abbrev pub type_layer : CType-F Words → Words
type_layer typ.Void = one (codes "void")
type_layer typ.Int = one (codes "int")
type_layer typ.Unsigned = one (codes "unsigned")
type_layer typ.Lock = one (codes "lock")
type_layer (typ.Struct name) = codes "struct" ∷ one name
type_layer (typ.Pointer t) = t ++ one (codes "*")
type_layer (typ.Array t n) = t ++ codes "[" ∷ decimal n ∷ one (codes "]")

-- a type
unfoldable pub type_words : CType → Words
type_words = fold-CType Words type_layer

-- ---- precedence

-- how tightly an operator between two operands binds
abbrev pub precedence : BinOp → ℕ
precedence op.Or = 1
precedence op.Xor = 2
precedence op.And = 3
precedence op.Eq = 4
precedence op.Ne = 4
precedence op.Lt = 5
precedence op.Le = 5
precedence op.Gt = 5
precedence op.Ge = 5
precedence op.Shl = 6
precedence op.Shr = 6
precedence op.Add = 7
precedence op.Sub = 7
precedence op.Mul = 8
precedence op.Div = 8
precedence op.Rem = 8

-- a prefix, a cast, `sizeof` or `alignof`
abbrev pub of_prefixes : ℕ
of_prefixes = 9

-- `.f`, `->f` or an index
abbrev pub of_suffixes : ℕ
of_suffixes = 10

-- a number or a name
abbrev pub of_atoms : ℕ
of_atoms = 11

-- How tightly an expression binds: as its outermost operator, a number or a name most tightly.
abbrev pub strength : {A B : Type 0} → ExprNode-F A B → ℕ
strength (node.Num n u) = of_atoms
strength (node.Ident name) = of_atoms
strength (node.Unary o e) = of_prefixes
strength (node.Binary o d e) = precedence o
strength (node.Cast t e) = of_prefixes
strength (node.SizeOf t) = of_prefixes
strength (node.AlignOf t) = of_prefixes
strength (node.Field e name) = of_suffixes
strength (node.Arrow e name) = of_suffixes
strength (node.Index d e) = of_suffixes
strength (node.Deref e) = of_prefixes
strength (node.AddressOf e) = of_prefixes

-- ---- expressions

abbrev pub prefix_text : UnOp → List ℕ
prefix_text prefix.Minus = codes "-"
prefix_text prefix.Not = codes "!"
prefix_text prefix.Invert = codes "~"

abbrev pub operator_text : BinOp → List ℕ
operator_text op.Add = codes "+"
operator_text op.Sub = codes "-"
operator_text op.Mul = codes "*"
operator_text op.Div = codes "/"
operator_text op.Rem = codes "%"
operator_text op.And = codes "&"
operator_text op.Or = codes "|"
operator_text op.Xor = codes "^"
operator_text op.Shl = codes "<<"
operator_text op.Shr = codes ">>"
operator_text op.Eq = codes "=="
operator_text op.Ne = codes "!="
operator_text op.Lt = codes "<"
operator_text op.Le = codes "<="
operator_text op.Gt = codes ">"
operator_text op.Ge = codes ">="

-- a number, with the suffix `u` where it is unsigned
abbrev pub number_text : ℕ → Bool → List ℕ
number_text n false = decimal n
number_text n true = decimal n ++ codes "u"

-- An expression's own tokens, and how tightly it binds.
pub record Phrase : Type 0 where
  pub words : Words
  pub strength_of : ℕ

-- Where an expression stands: its tokens, in brackets where it binds less tightly than the place asks.
abbrev pub Placed : Type 0
Placed = ℕ → Words

abbrev pub bracketed : Words → Words
bracketed ws = codes "(" ∷ ws ++ one (codes ")")

abbrev pub expression_layer : Expr-F Phrase Placed → Placed
expression_layer e least = if nat_lt e.node.strength_of least then bracketed e.node.words else e.node.words

-- The left operand of an operator binds as tightly as it or more, the right operand more; the operand of a prefix or a
-- suffix binds as tightly as it or more. Behind a bracket any expression stands.
abbrev pub node_words : ExprNode-F Phrase Placed → Words
node_words (node.Num n u) = one (number_text n u)
node_words (node.Ident name) = one name
node_words (node.Unary o e) = prefix_text o ∷ e of_prefixes
node_words (node.Binary o d e) = d (precedence o) ++ operator_text o ∷ e (precedence o + 1)
node_words (node.Cast t e) = codes "(" ∷ type_words t ++ codes ")" ∷ e of_prefixes
node_words (node.SizeOf t) = codes "sizeof" ∷ bracketed (type_words t)
node_words (node.AlignOf t) = codes "alignof" ∷ bracketed (type_words t)
node_words (node.Field e name) = e of_suffixes ++ codes "." ∷ one name
node_words (node.Arrow e name) = e of_suffixes ++ codes "->" ∷ one name
node_words (node.Index d e) = d of_suffixes ++ codes "[" ∷ e 0 ++ one (codes "]")
node_words (node.Deref e) = codes "*" ∷ e of_prefixes
node_words (node.AddressOf e) = codes "&" ∷ e of_prefixes

abbrev pub node_layer : ExprNode-F Phrase Placed → Phrase
node_layer n = record { words = node_words n; strength_of = strength n }

unfoldable pub phrase : ExprNode → Phrase
phrase = fold-ExprNode Phrase Placed node_layer expression_layer

-- an operand where an expression has to bind so tightly
unfoldable pub operand : Expr → ℕ → Words
operand = fold-Expr Phrase Placed node_layer expression_layer

-- an expression that stands by itself
abbrev pub expression_words : Expr → Words
expression_words e = operand e 0

-- ---- statements

abbrev pub target_words : Option Expr → Words
target_words None = []
target_words (Some e) = expression_words e ++ one (codes "=")

abbrev pub result_words : Option Expr → Words
result_words None = []
result_words (Some e) = expression_words e

-- statements in braces
abbrev pub block_words : List Words → Words
block_words ss = codes "{" ∷ flat_map (λ s. s) ss ++ one (codes "}")

-- an empty `else` is not written
abbrev pub else_words : List Words → Words
else_words [] = []
else_words (s ∷ ss) = codes "else" ∷ block_words (s ∷ ss)

abbrev pub statement_node_layer : StmtNode-F Words Words → Words
statement_node_layer statement.Skip = one (codes ";")
statement_node_layer (statement.Assign d e) = expression_words d ++ codes "=" ∷ expression_words e ++ one (codes ";")
statement_node_layer (statement.Call to f es) =
    target_words to ++ f ∷ codes "(" ∷ listed (map expression_words es) ++ codes ")" ∷ one (codes ";")
statement_node_layer (statement.If e a b) =
    codes "if" ∷ codes "(" ∷ expression_words e ++ codes ")" ∷ block_words a ++ else_words b
statement_node_layer (statement.While e a) = codes "while" ∷ codes "(" ∷ expression_words e ++ codes ")" ∷ block_words a
statement_node_layer statement.Break = codes "break" ∷ one (codes ";")
statement_node_layer statement.Continue = codes "continue" ∷ one (codes ";")
statement_node_layer (statement.Return e) = codes "return" ∷ result_words e ++ one (codes ";")

abbrev pub statement_layer : Stmt-F Words Words → Words
statement_layer s = s.node

unfoldable pub node_statement_words : StmtNode → Words
node_statement_words = fold-StmtNode Words Words statement_node_layer statement_layer

-- a statement
unfoldable pub statement_words : Stmt → Words
statement_words = fold-Stmt Words Words statement_node_layer statement_layer

-- ---- functions

-- a parameter
abbrev pub field_words : Field → Words
field_words f = type_words f.typ ++ one f.name

abbrev pub parameter_words : List Field → Words
parameter_words [] = one (codes "void")
parameter_words (f ∷ fs) = listed (map field_words (f ∷ fs))

-- a temporary
abbrev pub declaration_words : Field → Words
declaration_words f = field_words f ++ one (codes ";")

-- a function's tokens but the last bracket
abbrev pub opened_words : FnText → Words
opened_words f =
    type_words f.ret ++ f.name ∷ codes "(" ∷ parameter_words f.params ++ codes ")" ∷ codes "{"
    ∷ flat_map declaration_words f.temps ++ flat_map statement_words f.body

-- a function
abbrev pub function_words : FnText → Words
function_words f = opened_words f ++ one (codes "}")

-- the text of a function
abbrev pub printed : FnText → List ℕ
printed f = join_with_byte 32 (function_words f)

-- ---- what the functions that write a part ensure

-- statements in braces
abbrev pub braces : List Stmt → Words
braces ss = codes "{" ∷ flat_map statement_words ss ++ one (codes "}")

-- the `else` of a statement, which is not written where it is empty
abbrev pub else_braces : List Stmt → Words
else_braces [] = []
else_braces (s ∷ ss) = codes "else" ∷ braces (s ∷ ss)

-- tokens with a space behind each
abbrev pub ended : Words → List ℕ
ended = flat_map (λ w. w ++ 32 ∷ [])
