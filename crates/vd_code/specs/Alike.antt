-- The scopes that head parts give tell the same.
use Rattle.std.specs.Prelude.{List}
use Rattle.vd_clight.specs.declared.program.CScope.{CScope}
use Rattle.vd_ctyping.specs.Alike.{TellTheSame}
use Rattle.vd_outline.specs.Outline.{Bytes}
use Rattle.vd_linkage.specs.Program.{HasScope}

-- Head parts give this scope, and others that they give tell the same.
pub record IsScopeOf (texts : List Bytes) (scope : CScope) : Type 0 where
  pub has : HasScope texts scope
  pub same : (other : CScope) → HasScope texts other → TellTheSame scope other
