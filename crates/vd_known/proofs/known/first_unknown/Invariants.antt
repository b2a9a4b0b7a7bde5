use Rattle.vd_heads.specs.Least.{IsLeastOrNone}
use Rattle.vd_known.specs.Known as known
use Rattle.vd_known.proofs.LeastLaws.{Among}
use Rattle.vd_known.proofs.known.first_unknown.Given as goal

abbrev pub invariant-loop-section : goal.invariant-loop-section
invariant-loop-section l = IsLeastOrNone (Among (known.IsUnknown l.fn.view.parts.now l.fn.view.own) l.section-items l.section-index) l.first
