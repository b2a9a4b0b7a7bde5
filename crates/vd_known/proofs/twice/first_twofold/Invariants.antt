use Rattle.vd_heads.specs.Least.{IsLeastOrNone}
use Rattle.vd_known.specs.Twice as twice
use Rattle.vd_known.proofs.LeastLaws.{Items}
use Rattle.vd_known.proofs.twice.first_twofold.Given as goal

abbrev pub invariant-loop-name : goal.invariant-loop-name
invariant-loop-name l = IsLeastOrNone (Items (λ b at. twice.IsTwofoldAt l.fn.view.parts.now l.fn.view.own l.fn.space b.now at) l.name-items l.name-index) l.first
