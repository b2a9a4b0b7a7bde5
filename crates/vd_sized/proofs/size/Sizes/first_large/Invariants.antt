use Rattle.std.proofs.Common.{take}
use Rattle.vd_heads.specs.Least.{IsLeastOrNone}
use Rattle.vd_sized.specs.Cells.{IsLarge}
use Rattle.vd_sized.proofs.Firsts.{StandsAt}
use Rattle.vd_sized.proofs.size.Sizes.first_large.Given as goal

abbrev pub invariant-loop-section : goal.invariant-loop-section
invariant-loop-section l = IsLeastOrNone (StandsAt (IsLarge l.view.parts.now l.view.own) (take l.section-index l.section-items)) l.first
