-- How deeply words are nested, wherever they stand.
use Rattle.std.specs.Prelude.{ℕ, ◌+◌, ◌<◌, [], ◌∷◌}
use Rattle.vd_clight.specs.declared.syntax.Expr.{Expr}
use Rattle.vd_clight.specs.Printed.{Words, expression_words}
use Rattle.vd_cgrammar.specs.declared.depth.Depth.{Depth}
use Rattle.vd_cgrammar.specs.Nesting.{after}
use Rattle.vd_cgrammar.specs.Precedence.{Vocabulary, Spells, node_of}

-- what is counted at a token
abbrev pub nested : Depth → ℕ
nested d = d.brackets + d.operators

module _ (V : Vocabulary) where
  -- what is counted behind words
  abbrev pub walked : Depth → Words → Depth
  walked d [] = d
  walked d (w ∷ ws) = walked (after (V.kind_at w) d) ws

  -- Each word is nested less deeply than the number says.
  abbrev pub Shallow : ℕ → Depth → Words → Type 0
  Shallow most d [] = Unit {0}
  Shallow most d (w ∷ ws) = (nested (after (V.kind_at w) d) < most) × Shallow most (after (V.kind_at w) d) ws

-- What is printed of an expression is nested no more deeply than any words that spell it.
abbrev pub PrintedIsShallow : Type 0
PrintedIsShallow = (V : Vocabulary) (x : Expr) (ws : Words) (most : ℕ) (d : Depth) → Spells V 0 (node_of x) ws → Shallow V most d ws → Shallow V most d (expression_words x)
