use Rattle.vd_heads.specs.Declaration.{Bytes}
use Rattle.vd_heads.specs.Least.{IsLeastOrNone}
use Rattle.vd_known.specs.HeaderNames.{AreBodies}
use Rattle.vd_known.proofs.LackLaws.{InSection}
use Rattle.vd_known.proofs.LeastLaws.{Items}
use Rattle.vd_known.proofs.completeness.first_lack.Given as goal

abbrev pub invariant-loop-section : goal.invariant-loop-section
invariant-loop-section l = (lines : Bytes) → AreBodies lines l.fn.bodies → IsLeastOrNone (Items (InSection lines l.fn.view.parts.now l.fn.view.own) l.section-items l.section-index) l.first
