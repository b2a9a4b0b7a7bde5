use Rattle.std.proofs.Common.{◌≡◌, drop}
use Rattle.std.specs.Prelude.{◌↔◌}
use Rattle.vd_sized.proofs.agreement.same_sorts.Given as goal

-- what is left is the same exactly where all is
abbrev pub invariant-loop-s : goal.invariant-loop-s
invariant-loop-s l = (l.a ≡ l.b) ↔ (drop l.s-index l.a ≡ l.rest)
