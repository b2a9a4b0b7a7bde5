use Rattle.vd_heads.specs.Closure.{mentioned}
use Rattle.vd_heads.specs.PartSet.{Adds, IsMentionedBelow}
use Rattle.vd_heads.proofs.closure.add_mentioned.Given as goal

abbrev pub invariant-loop-section : goal.invariant-loop-section
invariant-loop-section l = Adds (IsMentionedBelow l.table mentioned l.sections l.section-index) l.fn.set l.set
