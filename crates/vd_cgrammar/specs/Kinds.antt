-- Kinds of tokens, and which of them a rule takes.
use Rattle.std.specs.Prelude.{ℕ, ◌==◌, Bool, true, false}
use Rattle.vd_cgrammar.specs.declared.kind.Kind.{Kind}
use Rattle.vd_cgrammar.specs.declared.kind.Kind.TheVariants as k
use Rattle.vd_cgrammar.specs.declared.kind.Class.{Class}
use Rattle.vd_cgrammar.specs.declared.kind.Class.TheVariants as c

-- the kinds in their order
abbrev pub kind_number : Kind → ℕ
kind_number k.End = 0
kind_number k.Name = 1
kind_number k.Own = 2
kind_number k.Number = 3
kind_number k.Length = 4
kind_number k.Int = 5
kind_number k.Unsigned = 6
kind_number k.Lock = 7
kind_number k.Void = 8
kind_number k.Struct = 9
kind_number k.If = 10
kind_number k.Else = 11
kind_number k.While = 12
kind_number k.Return = 13
kind_number k.Break = 14
kind_number k.Continue = 15
kind_number k.SizeOf = 16
kind_number k.AlignOf = 17
kind_number k.Malloc = 18
kind_number k.Spawn = 19
kind_number k.Library = 20
kind_number k.LeftParen = 21
kind_number k.RightParen = 22
kind_number k.LeftBrace = 23
kind_number k.RightBrace = 24
kind_number k.LeftBracket = 25
kind_number k.RightBracket = 26
kind_number k.Semicolon = 27
kind_number k.Comma = 28
kind_number k.Assign = 29
kind_number k.Or = 30
kind_number k.Xor = 31
kind_number k.And = 32
kind_number k.Equal = 33
kind_number k.NotEqual = 34
kind_number k.Less = 35
kind_number k.LessEqual = 36
kind_number k.Greater = 37
kind_number k.GreaterEqual = 38
kind_number k.ShiftLeft = 39
kind_number k.ShiftRight = 40
kind_number k.Plus = 41
kind_number k.Minus = 42
kind_number k.Star = 43
kind_number k.Slash = 44
kind_number k.Percent = 45
kind_number k.Not = 46
kind_number k.Tilde = 47
kind_number k.Dot = 48
kind_number k.Arrow = 49
kind_number k.EndLine = 50
kind_number k.Other = 51

-- the kinds are one
abbrev pub same : Kind → Kind → Bool
same a b = kind_number a == kind_number b

-- the class has tokens of the kind
abbrev pub has : Class → Kind → Bool
has (c.One one) kind = same one kind
has c.AnyName k.Name = true
has c.AnyName k.Own = true
has c.AnyName _ = false
has c.AnyNumber k.Number = true
has c.AnyNumber k.Length = true
has c.AnyNumber _ = false
has c.TypeWord k.Int = true
has c.TypeWord k.Unsigned = true
has c.TypeWord k.Lock = true
has c.TypeWord k.Void = true
has c.TypeWord k.Struct = true
has c.TypeWord _ = false
has c.SimpleType k.Int = true
has c.SimpleType k.Unsigned = true
has c.SimpleType k.Lock = true
has c.SimpleType k.Void = true
has c.SimpleType _ = false
has c.FilledType k.Int = true
has c.FilledType k.Unsigned = true
has c.FilledType k.Lock = true
has c.FilledType _ = false
has c.Prefix k.Minus = true
has c.Prefix k.Not = true
has c.Prefix k.Tilde = true
has c.Prefix k.Star = true
has c.Prefix k.And = true
has c.Prefix _ = false
has c.Measure k.SizeOf = true
has c.Measure k.AlignOf = true
has c.Measure _ = false
has c.Binary k.Or = true
has c.Binary k.Xor = true
has c.Binary k.And = true
has c.Binary k.Equal = true
has c.Binary k.NotEqual = true
has c.Binary k.Less = true
has c.Binary k.LessEqual = true
has c.Binary k.Greater = true
has c.Binary k.GreaterEqual = true
has c.Binary k.ShiftLeft = true
has c.Binary k.ShiftRight = true
has c.Binary k.Plus = true
has c.Binary k.Minus = true
has c.Binary k.Star = true
has c.Binary k.Slash = true
has c.Binary k.Percent = true
has c.Binary _ = false
has c.Member k.Dot = true
has c.Member k.Arrow = true
has c.Member _ = false
has c.Jump k.Break = true
has c.Jump k.Continue = true
has c.Jump _ = false
has c.Reserved k.Malloc = true
has c.Reserved k.Spawn = true
has c.Reserved k.Library = true
has c.Reserved _ = false
