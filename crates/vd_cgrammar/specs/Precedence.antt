-- What words spell an expression, by the precedence of C. Brackets may stand round any operand, and have to stand round one that binds less tightly than its place asks.
use Rattle.std.specs.Prelude.{ℕ, ◌+◌, ◌≤◌, ◌≡◌, Bool, true, false, List, [], ◌∷◌, ◌++◌, codes}
use Rattle.vd_base.specs.declared.ctype.CType.{CType}
use Rattle.vd_base.specs.declared.ctype.CType.TheVariants as typ
use Rattle.vd_clight.specs.declared.syntax.Expr.{Expr, out-Expr}
use Rattle.vd_clight.specs.declared.syntax.ExprNode.{ExprNode}
use Rattle.vd_clight.specs.declared.syntax.ExprNode.TheVariants as e
use Rattle.vd_clight.specs.Printed.{Words, number_text, precedence, of_prefixes, of_suffixes, operand, phrase}
use Rattle.vd_cgrammar.specs.declared.kind.Kind.{Kind}
use Rattle.vd_cgrammar.specs.declared.kind.Kind.TheVariants as k
use Rattle.vd_cgrammar.specs.declared.kind.Class.TheVariants as c
use Rattle.vd_cgrammar.specs.Kinds.{has}
use Rattle.vd_cgrammar.specs.Syntax.{simple_of, prefixed, measured, member_of, binary_of}

-- the word or sign of a kind that has one
abbrev pub text_of : Kind → List ℕ
text_of k.Int = codes "int"
text_of k.Unsigned = codes "unsigned"
text_of k.Lock = codes "lock"
text_of k.Void = codes "void"
text_of k.Struct = codes "struct"
text_of k.SizeOf = codes "sizeof"
text_of k.AlignOf = codes "alignof"
text_of k.LeftParen = codes "("
text_of k.RightParen = codes ")"
text_of k.LeftBracket = codes "["
text_of k.RightBracket = codes "]"
text_of k.Or = codes "|"
text_of k.Xor = codes "^"
text_of k.And = codes "&"
text_of k.Equal = codes "=="
text_of k.NotEqual = codes "!="
text_of k.Less = codes "<"
text_of k.LessEqual = codes "<="
text_of k.Greater = codes ">"
text_of k.GreaterEqual = codes ">="
text_of k.ShiftLeft = codes "<<"
text_of k.ShiftRight = codes ">>"
text_of k.Plus = codes "+"
text_of k.Minus = codes "-"
text_of k.Star = codes "*"
text_of k.Slash = codes "/"
text_of k.Percent = codes "%"
text_of k.Not = codes "!"
text_of k.Tilde = codes "~"
text_of k.Dot = codes "."
text_of k.Arrow = codes "->"
text_of k.LeftBrace = codes "{"
text_of k.RightBrace = codes "}"
text_of k.Semicolon = codes ";"
text_of k.Comma = codes ","
text_of k.Assign = codes "="
text_of k.If = codes "if"
text_of k.Else = codes "else"
text_of k.While = codes "while"
text_of k.Return = codes "return"
text_of k.Break = codes "break"
text_of k.Continue = codes "continue"
text_of _ = []

-- the kind has a word or sign of its own
abbrev pub has_text : List ℕ → Bool
has_text [] = false
has_text (b ∷ bs) = true

-- What a reader takes words for: their kinds, and the numbers that they spell. A number's own text is taken for it.
pub record Vocabulary : Type 0 where
  pub kind_at : List ℕ → Kind
  pub value_at : List ℕ → ℕ
  pub unsigned_at : List ℕ → Bool
  pub text_is : (kind : Kind) → has_text (text_of kind) ≡ true → kind_at (text_of kind) ≡ kind
  pub number_is : (w : List ℕ) → has c.AnyNumber (kind_at w) ≡ true → has c.AnyNumber (kind_at (number_text (value_at w) (unsigned_at w))) ≡ true
  pub value_is : (w : List ℕ) → has c.AnyNumber (kind_at w) ≡ true → value_at (number_text (value_at w) (unsigned_at w)) ≡ value_at w
  pub unsigned_is : (w : List ℕ) → has c.AnyNumber (kind_at w) ≡ true → unsigned_at (number_text (value_at w) (unsigned_at w)) ≡ unsigned_at w

-- what an expression is, without its place
abbrev pub node_of : Expr → ExprNode
node_of x = (out-Expr x).node

-- how tightly an expression binds
abbrev pub binds : ExprNode → ℕ
binds n = (phrase n).strength_of

module _ (V : Vocabulary) where
  -- The words spell a type.
  pub data SpellsType : CType → Words → Type 0 where
    simple : {t : CType} {ws : Words} (w : List ℕ) → has c.SimpleType (V.kind_at w) ≡ true → t ≡ simple_of (V.kind_at w) → ws ≡ w ∷ [] → SpellsType t ws
    struct : {t : CType} {ws : Words} (s w : List ℕ) → V.kind_at s ≡ k.Struct → has c.AnyName (V.kind_at w) ≡ true → t ≡ typ.Struct w → ws ≡ s ∷ w ∷ [] → SpellsType t ws
    pointer : {t : CType} {ws : Words} (to : CType) (xs : Words) (star : List ℕ) → V.kind_at star ≡ k.Star → SpellsType to xs → t ≡ typ.Pointer to → ws ≡ xs ++ star ∷ [] → SpellsType t ws

  mutual
    -- The words spell an expression where it has to bind so tightly.
    pub data Spells : ℕ → ExprNode → Words → Type 0 where
      bare : {least : ℕ} {n : ExprNode} {ws : Words} → least ≤ binds n → SpellsBare n ws → Spells least n ws
      brackets : {least : ℕ} {n : ExprNode} {ws : Words} (b close : List ℕ) (xs : Words) → V.kind_at b ≡ k.LeftParen → V.kind_at close ≡ k.RightParen
          → Spells 0 n xs → ws ≡ b ∷ xs ++ close ∷ [] → Spells least n ws

    -- The words spell an expression that has no brackets round it.
    pub data SpellsBare : ExprNode → Words → Type 0 where
      number : {n : ExprNode} {ws : Words} (w : List ℕ) → has c.AnyNumber (V.kind_at w) ≡ true → n ≡ e.Num (V.value_at w) (V.unsigned_at w) → ws ≡ w ∷ [] → SpellsBare n ws
      name : {n : ExprNode} {ws : Words} (w : List ℕ) → has c.AnyName (V.kind_at w) ≡ true → n ≡ e.Ident w → ws ≡ w ∷ [] → SpellsBare n ws
      prefix : {n : ExprNode} {ws : Words} (o : List ℕ) (x : Expr) (xs : Words) → has c.Prefix (V.kind_at o) ≡ true → Spells of_prefixes (node_of x) xs
          → n ≡ prefixed (V.kind_at o) x → ws ≡ o ∷ xs → SpellsBare n ws
      cast : {n : ExprNode} {ws : Words} (b close : List ℕ) (t : CType) (ts : Words) (x : Expr) (xs : Words) → V.kind_at b ≡ k.LeftParen → V.kind_at close ≡ k.RightParen
          → SpellsType t ts → Spells of_prefixes (node_of x) xs → n ≡ e.Cast t x → ws ≡ (b ∷ ts) ++ close ∷ xs → SpellsBare n ws
      measure : {n : ExprNode} {ws : Words} (m b close : List ℕ) (t : CType) (ts : Words) → has c.Measure (V.kind_at m) ≡ true → V.kind_at b ≡ k.LeftParen
          → V.kind_at close ≡ k.RightParen → SpellsType t ts → n ≡ measured (V.kind_at m) t → ws ≡ m ∷ b ∷ ts ++ close ∷ [] → SpellsBare n ws
      binary : {n : ExprNode} {ws : Words} (o : List ℕ) (x y : Expr) (xs ys : Words) → has c.Binary (V.kind_at o) ≡ true
          → Spells (precedence (binary_of (V.kind_at o))) (node_of x) xs → Spells (precedence (binary_of (V.kind_at o)) + 1) (node_of y) ys
          → n ≡ e.Binary (binary_of (V.kind_at o)) x y → ws ≡ xs ++ o ∷ ys → SpellsBare n ws
      member : {n : ExprNode} {ws : Words} (o f : List ℕ) (x : Expr) (xs : Words) → has c.Member (V.kind_at o) ≡ true → has c.AnyName (V.kind_at f) ≡ true
          → Spells of_suffixes (node_of x) xs → n ≡ member_of (V.kind_at o) x f → ws ≡ xs ++ o ∷ f ∷ [] → SpellsBare n ws
      index : {n : ExprNode} {ws : Words} (b close : List ℕ) (x y : Expr) (xs ys : Words) → V.kind_at b ≡ k.LeftBracket → V.kind_at close ≡ k.RightBracket
          → Spells of_suffixes (node_of x) xs → Spells 0 (node_of y) ys → n ≡ e.Index x y → ws ≡ xs ++ b ∷ ys ++ close ∷ [] → SpellsBare n ws

-- The tokens that are printed of an expression are among those that spell it.
abbrev pub PrintedSpells : Type 0
PrintedSpells = (V : Vocabulary) (least most : ℕ) (x : Expr) (ws : Words) → Spells V most (node_of x) ws → Spells V least (node_of x) (operand x least)
