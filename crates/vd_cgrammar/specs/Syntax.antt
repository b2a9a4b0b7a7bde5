-- The syntax that is made of the parts of a rule.
use Rattle.std.specs.Prelude.{ℕ, zero, suc, ◌-◌, ◌==◌, if◌then◌else◌, List, [], ◌∷◌, Option, None, Some}
use Rattle.vd_base.specs.declared.ctype.CType.{CType}
use Rattle.vd_base.specs.declared.ctype.CType.TheVariants as typ
use Rattle.vd_base.specs.declared.ctype.Field.{Field}
use Rattle.vd_clight.specs.declared.syntax.UnOp.TheVariants as unary
use Rattle.vd_clight.specs.declared.syntax.BinOp.{BinOp}
use Rattle.vd_clight.specs.declared.syntax.BinOp.TheVariants as binary
use Rattle.vd_clight.specs.declared.syntax.Expr.{Expr, roll-Expr, out-Expr}
use Rattle.vd_clight.specs.declared.syntax.ExprNode.{ExprNode}
use Rattle.vd_clight.specs.declared.syntax.ExprNode.TheVariants as e
use Rattle.vd_clight.specs.declared.syntax.Stmt.{Stmt, roll-Stmt}
use Rattle.vd_clight.specs.declared.syntax.StmtNode.{StmtNode}
use Rattle.vd_clight.specs.declared.syntax.StmtNode.TheVariants as s
use Rattle.vd_cgrammar.specs.declared.kind.Kind.{Kind}
use Rattle.vd_cgrammar.specs.declared.kind.Kind.TheVariants as k
use Rattle.vd_cgrammar.specs.declared.parts.Postfix.{Postfix}
use Rattle.vd_cgrammar.specs.declared.parts.Postfix.TheVariants as postfix
use Rattle.vd_cgrammar.specs.declared.parts.Enclosed.{Enclosed}
use Rattle.vd_cgrammar.specs.declared.parts.Enclosed.TheVariants as enclosed
use Rattle.vd_cgrammar.specs.declared.parts.Source.{Source}
use Rattle.vd_cgrammar.specs.declared.parts.Source.TheVariants as source
use Rattle.vd_cgrammar.specs.declared.parts.Tail.{Tail}
use Rattle.vd_cgrammar.specs.declared.parts.Tail.TheVariants as tail
use Rattle.vd_cgrammar.specs.declared.parts.Invocation.{Invocation}
use Rattle.vd_cgrammar.specs.declared.parts.Named.{Named}
use Rattle.vd_cgrammar.specs.declared.parts.Named.TheVariants as named

-- ---- types

-- the type of one word
abbrev pub simple_of : Kind → CType
simple_of k.Int = typ.Int
simple_of k.Unsigned = typ.Unsigned
simple_of k.Lock = typ.Lock
simple_of _ = typ.Void

-- the type with so many stars behind it
abbrev pub pointers : ℕ → CType → CType
pointers zero t = t
pointers (suc n) t = pointers n (typ.Pointer t)

-- the type of a name with a length behind it, or with none
abbrev pub array_of : Option ℕ → CType → CType
array_of None t = t
array_of (Some n) t = typ.Array t n

abbrev pub field_of : List ℕ → CType → Field
field_of name t = record { name = name; typ = t }

-- ---- expressions

-- an expression at a place
abbrev pub at : ℕ → ExprNode → Expr
at place node = roll-Expr (record { place = place; node = node })

-- a prefix operator with its operand
abbrev pub prefixed : Kind → Expr → ExprNode
prefixed k.Minus x = e.Unary unary.Minus x
prefixed k.Not x = e.Unary unary.Not x
prefixed k.Tilde x = e.Unary unary.Invert x
prefixed k.Star x = e.Deref x
prefixed _ x = e.AddressOf x

-- `sizeof` or `alignof` of a type
abbrev pub measured : Kind → CType → ExprNode
measured k.SizeOf t = e.SizeOf t
measured _ t = e.AlignOf t

-- a field of a struct, or of the struct that a pointer points to
abbrev pub member_of : Kind → Expr → List ℕ → ExprNode
member_of k.Arrow x name = e.Arrow x name
member_of _ x name = e.Field x name

-- an operand at a place with a postfix behind it
abbrev pub with_postfix : ℕ → ExprNode → Postfix → ExprNode
with_postfix place node (postfix.Member kind name) = member_of kind (at place node) name
with_postfix place node (postfix.Index x) = e.Index (at place node) x

-- Postfixes stand behind an operand, from left to right. What they make begins at the same place.
abbrev pub behind : ℕ → ExprNode → List Postfix → Expr
behind place node [] = at place node
behind place node (p ∷ ps) = behind place (with_postfix place node p) ps

-- What begins with an opening bracket begins at it.
abbrev pub in_brackets : ℕ → Enclosed → Expr
in_brackets place (enclosed.Cast t x) = at place (e.Cast t x)
in_brackets place (enclosed.Brackets x ps) = behind place (out-Expr x).node ps

-- the operator of a sign
abbrev pub binary_of : Kind → BinOp
binary_of k.Or = binary.Or
binary_of k.Xor = binary.Xor
binary_of k.And = binary.And
binary_of k.Equal = binary.Eq
binary_of k.NotEqual = binary.Ne
binary_of k.Less = binary.Lt
binary_of k.LessEqual = binary.Le
binary_of k.Greater = binary.Gt
binary_of k.GreaterEqual = binary.Ge
binary_of k.ShiftLeft = binary.Shl
binary_of k.ShiftRight = binary.Shr
binary_of k.Plus = binary.Add
binary_of k.Minus = binary.Sub
binary_of k.Star = binary.Mul
binary_of k.Slash = binary.Div
binary_of _ = binary.Rem

-- how tightly an operator binds: `|`, `^`, `&`, equality, order, shifts, sums, products
abbrev pub level_of : Kind → ℕ
level_of k.Or = 0
level_of k.Xor = 1
level_of k.And = 2
level_of k.Equal = 3
level_of k.NotEqual = 3
level_of k.Less = 4
level_of k.LessEqual = 4
level_of k.Greater = 4
level_of k.GreaterEqual = 4
level_of k.ShiftLeft = 5
level_of k.ShiftRight = 5
level_of k.Plus = 6
level_of k.Minus = 6
level_of _ = 7

-- the number of levels
abbrev pub levels : ℕ
levels = 8

-- It begins where its left operand does.
abbrev pub operated : Kind → Expr → Expr → Expr
operated kind l r = at (out-Expr l).place (e.Binary (binary_of kind) l r)

-- The operators of one level are taken from left to right, the others stay.
abbrev pub pass : ℕ → Expr → List (Kind × Expr) → Expr × List (Kind × Expr)
pass level x [] = (x, [])
pass level x (o ∷ os) = if level_of o.0 == level then pass level (operated o.0 x o.1) os
    else (x, (o.0, (pass level o.1 os).0) ∷ (pass level o.1 os).1)

-- the passes of the levels below a number, the highest first
abbrev pub passes : ℕ → Expr → List (Kind × Expr) → Expr × List (Kind × Expr)
passes zero x os = (x, os)
passes (suc n) x os = passes n (pass n x os).0 (pass n x os).1

-- an operand, and operators with their right operands: those that bind most tightly are taken first
unfoldable pub grouped : Expr → List (Kind × Expr) → Expr
grouped x os = (passes levels x os).0

-- ---- statements

-- a statement at a place
abbrev pub stmt_at : ℕ → StmtNode → Stmt
stmt_at place node = roll-Stmt (record { place = place; node = node })

-- `break` or `continue`
abbrev pub jump_of : Kind → StmtNode
jump_of k.Break = s.Break
jump_of _ = s.Continue

-- the call of a function whose name is reserved
abbrev pub called : ℕ → List ℕ → List Expr → Invocation
called place name xs = record { place = place; name = name; arguments = xs }

-- what a statement assigns to a left side, at whose first token it begins
abbrev pub assigned : Expr → Source → Stmt
assigned l (source.Value x) = stmt_at (out-Expr l).place (s.Assign l x)
assigned l (source.Call name xs) = stmt_at (out-Expr l).place (s.Call (Some l) name xs)

-- an expression that begins with a name
abbrev pub from_name : ℕ → List ℕ → List Postfix → List (Kind × Expr) → Expr
from_name place name ps os = grouped (behind place (e.Ident name) ps) os

-- what is assigned where a name stands first
abbrev pub source_of : ℕ → List ℕ → Tail → Source
source_of place name (tail.Called xs) = source.Call name xs
source_of place name (tail.Operated ps os) = source.Value (from_name place name ps os)

-- a statement that begins with a name
abbrev pub statement_of : ℕ → List ℕ → Named → Stmt
statement_of place name (named.Called xs) = stmt_at place (s.Call None name xs)
statement_of place name (named.Assigned ps os x) = assigned (from_name place name ps os) x

-- the negative of a number, as a cell holds it
abbrev pub negative : ℕ → ℕ
negative zero = 0
negative (suc n) = 4294967295 - n
