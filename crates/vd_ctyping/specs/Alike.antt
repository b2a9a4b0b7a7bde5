-- Scopes that tell the same.
use Rattle.std.specs.Prelude.{◌≡◌}
use Rattle.vd_clight.specs.declared.program.CScope.{CScope}
use Rattle.vd_judge.specs.Alike.{AreAlike}

-- Two scopes have the same globals and functions, and their tables tell the same.
pub record TellTheSame (x y : CScope) : Type 0 where
  pub structs : AreAlike x.structs y.structs
  pub globals : x.globals ≡ y.globals
  pub functions : x.fns ≡ y.fns
