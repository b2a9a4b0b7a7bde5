-- How deeply tokens are nested: the brackets and braces that are open, and the operators since the last `;`, `{` or `}`. It bounds the depth of every syntax tree.
use Rattle.std.specs.Prelude.{ℕ, suc, ◌+◌, ◌-◌, Bool, false, ◌||◌, ◌&&◌, if◌then◌else◌}
use Rattle.std.proofs.Common.{lit<}
use Rattle.vd_grammar.specs.Nesting.{Nesting}
use Rattle.vd_cgrammar.specs.declared.depth.Depth.{Depth}
use Rattle.vd_cgrammar.specs.declared.kind.Kind.{Kind}
use Rattle.vd_cgrammar.specs.declared.kind.Kind.TheVariants as k
use Rattle.vd_cgrammar.specs.declared.kind.Class.TheVariants as c
use Rattle.vd_cgrammar.specs.Kinds.{same, has}
use Rattle.vd_cgrammar.specs.Grammar.{grammar}

abbrev pub opens : Kind → Bool
opens kind = same k.LeftParen kind || (same k.LeftBracket kind || same k.LeftBrace kind)

abbrev pub closes : Kind → Bool
closes kind = same k.RightParen kind || (same k.RightBracket kind || same k.RightBrace kind)

-- operators are counted from here on
abbrev pub divides : Kind → Bool
divides kind = same k.Semicolon kind || (same k.LeftBrace kind || same k.RightBrace kind)

-- binary and prefix operators, `*` of types, `.`, `->` and `[`
abbrev pub is_operator : Kind → Bool
is_operator kind = has c.Binary kind || (has c.Prefix kind || (has c.Member kind || same k.LeftBracket kind))

-- the brackets that are open behind a token
abbrev pub brackets_after : Kind → ℕ → ℕ
brackets_after kind n = if opens kind then suc n else (if closes kind then n - 1 else n)

-- the operators behind a token. A type right behind `(` is a cast.
abbrev pub operators_after : Kind → Bool → ℕ → ℕ
operators_after kind is_opened n = if divides kind then 0 else (if is_operator kind || (is_opened && has c.TypeWord kind) then suc n else n)

-- what is counted behind a token
abbrev pub after : Kind → Depth → Depth
after kind d = record {
  brackets = brackets_after kind d.brackets;
  operators = operators_after kind d.is_opened d.operators;
  is_opened = same k.LeftParen kind;
}

-- before the first token
abbrev pub start : Depth
start = record { brackets = 0; operators = 0; is_opened = false }

-- at 256 a token is nested too deeply
abbrev pub nesting : Nesting grammar
nesting = record {
  State = Depth;
  start = start;
  after = λ t d. after t.kind d;
  depth = λ d. d.brackets + d.operators;
  limit = 256;
  start_below = lit< tt;
}
