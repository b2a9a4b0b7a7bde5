use Rattle.std.proofs.Common.{drop, map}
use Rattle.std.specs.Prelude.{◌↔◌}
use Rattle.vd_sized.specs.Initial.{AreUnfit}
use Rattle.vd_sized.proofs.initial.are_unfit.Given as goal

-- some value left does not fit exactly where some does not
abbrev pub invariant-loop-at : goal.invariant-loop-at
invariant-loop-at l = AreUnfit l.view.parts.now l.view.own l.values (map (λ t. t.now) l.cells) ↔ AreUnfit l.view.parts.now l.view.own (drop l.at l.values) (drop l.at (map (λ t. t.now) l.cells))
