-- What is read behind what was read before.
use Rattle.std.specs.Prelude.{ℕ, Bool, ◌&&◌, nat_lt}
use Rattle.vd_base.specs.declared.ctype.CType.{CType}
use Rattle.vd_grammar.specs.Outcome.{Outcome, then_make}
use Rattle.vd_cgrammar.specs.declared.kind.Kind.{Kind}
use Rattle.vd_cgrammar.specs.declared.kind.Kind.TheVariants.{Comma}
use Rattle.vd_cgrammar.specs.declared.kind.Class.TheVariants.{One}
use Rattle.vd_cgrammar.specs.Kinds.{has}
use Rattle.vd_cgrammar.specs.Lexeme.{Lexeme}
use Rattle.vd_cgrammar.specs.Syntax.{pointers}

-- the type with the stars that are read behind it
abbrev pub reads_pointers : CType → Outcome Lexeme ℕ → Outcome Lexeme CType
reads_pointers t outcome = then_make outcome (λ n. pointers n t)

-- one value more follows, where at most so many may
abbrev pub goes_on : ℕ → Kind → Bool
goes_on most kind = nat_lt 0 most && has (One Comma) kind
