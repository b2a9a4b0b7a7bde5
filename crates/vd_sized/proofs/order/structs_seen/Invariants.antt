use Rattle.vd_sized.specs.Seen.{AreSeenBefore}
use Rattle.vd_sized.proofs.order.structs_seen.Given as goal

abbrev pub invariant-loop-number : goal.invariant-loop-number
invariant-loop-number l = AreSeenBefore l.view l.number l.seen
