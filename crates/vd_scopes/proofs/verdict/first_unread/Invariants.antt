use Rattle.vd_heads.specs.Least.{IsLeastOrNone}
use Rattle.vd_scopes.proofs.FirstUnread.{Among}
use Rattle.vd_scopes.proofs.verdict.first_unread.Given as goal

abbrev pub invariant-loop-section : goal.invariant-loop-section
invariant-loop-section l = IsLeastOrNone (Among l.section-items l.section-index) l.first
