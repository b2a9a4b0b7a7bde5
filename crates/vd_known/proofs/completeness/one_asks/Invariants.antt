use Rattle.vd_heads.specs.Declaration.{Bytes}
use Rattle.vd_known.specs.HeaderNames.{AreBodies}
use Rattle.vd_known.proofs.LackLaws.{NoneAsks}
use Rattle.vd_known.proofs.completeness.one_asks.Given as goal

abbrev pub invariant-loop-section : goal.invariant-loop-section
invariant-loop-section l = (lines : Bytes) → AreBodies lines l.fn.bodies → NoneAsks lines l.fn.view.parts.now l.fn.view.own l.fn.sections l.section-index
