use Rattle.std.proofs.Common.{drop}
use Rattle.std.specs.Prelude.{◌↔◌}
use Rattle.vd_sized.specs.Agreement.{SameTypes}
use Rattle.vd_sized.proofs.types.same_types.Given as goal

-- what is left has the types that are left exactly where all have all
abbrev pub invariant-loop-f : goal.invariant-loop-f
invariant-loop-f l = SameTypes l.a l.b ↔ SameTypes (drop l.f-index l.a) l.rest
