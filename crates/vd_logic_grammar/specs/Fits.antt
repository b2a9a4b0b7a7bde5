-- A token is spelled as its kind says, and has a number as its kind says.
use Rattle.std.specs.Prelude.{ℕ, ◌^◌, ◌-◌, nat_le, Bool, true, List}
use Rattle.std.specs.List.{list_all}
use Rattle.vd_base.specs.Name.{is_name}
use Rattle.vd_logic_grammar.specs.declared.kind.Kind.{Kind}
use Rattle.vd_logic_grammar.specs.declared.kind.Kind.TheVariants as k
use Rattle.vd_logic_grammar.specs.Lexeme.{Lexeme}

-- A token of this kind may be spelled so, and have this number.
abbrev pub may_be : Kind → List ℕ → ℕ → Bool
may_be k.Name spelling value = is_name spelling
may_be k.Own spelling value = is_name spelling
may_be k.Reserved spelling value = is_name spelling
may_be k.Number spelling value = nat_le value (2 ^ 127 - 1)
may_be k.Index spelling value = nat_le value 4294967295
may_be _ spelling value = true

-- the token is what its kind says
abbrev pub fits : Lexeme → Bool
fits t = may_be t.kind t.spelling t.value

-- every token is what its kind says
abbrev pub all_fit : List Lexeme → Bool
all_fit ts = list_all fits ts
