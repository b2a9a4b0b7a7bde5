use Rattle.std.proofs.Common.{take}
use Rattle.vd_heads.specs.Least.{IsLeastOrNone}
use Rattle.vd_sized.specs.Agreement.{IsDisagreement}
use Rattle.vd_sized.proofs.Firsts.{StandsAt}
use Rattle.vd_sized.proofs.agreement.first_disagreement.Given as goal

abbrev pub invariant-loop-section : goal.invariant-loop-section
invariant-loop-section l = IsLeastOrNone (StandsAt (IsDisagreement l.view.parts.now l.view.own) (take l.section-index l.section-items)) l.first
