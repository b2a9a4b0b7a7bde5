use Rattle.vd_heads.specs.Declaration.{Bytes}
use Rattle.vd_heads.specs.Least.{IsLeastOrNone}
use Rattle.vd_known.specs.Completeness as complete
use Rattle.vd_known.specs.HeaderNames.{AreBodies}
use Rattle.vd_known.proofs.LeastLaws.{Items}
use Rattle.vd_known.proofs.completeness.first_missing.Given as goal

abbrev pub invariant-loop-mention : goal.invariant-loop-mention
invariant-loop-mention l = (lines : Bytes) → AreBodies lines l.fn.bodies → IsLeastOrNone (Items (complete.IsMissing lines l.fn.view.parts.now l.fn.view.own) l.fn.mentions l.mention-index) l.first
