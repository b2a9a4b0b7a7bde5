-- A token is spelled as its kind says.
use Rattle.std.specs.Prelude.{ℕ, Bool, true, List}
use Rattle.std.specs.List.{list_all}
use Rattle.vd_base.specs.Name.{is_name}
use Rattle.vd_cgrammar.specs.declared.kind.Kind.{Kind}
use Rattle.vd_cgrammar.specs.declared.kind.Kind.TheVariants as k
use Rattle.vd_cgrammar.specs.Lexeme.{Lexeme}

-- A token of this kind may be spelled so.
abbrev pub may_be : Kind → List ℕ → Bool
may_be k.Name spelling = is_name spelling
may_be k.Own spelling = is_name spelling
may_be k.Malloc spelling = is_name spelling
may_be k.Spawn spelling = is_name spelling
may_be k.Library spelling = is_name spelling
may_be _ spelling = true

-- the token is what its kind says
abbrev pub fits : Lexeme → Bool
fits t = may_be t.kind t.spelling

-- every token is what its kind says
abbrev pub all_fit : List Lexeme → Bool
all_fit ts = list_all fits ts
