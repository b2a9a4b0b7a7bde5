use Rattle.std.proofs.Common.{sym, subst}
use Rattle.std.specs.List.{All}
use Rattle.vd_sized.specs.Seen.{IsMeant}
use Rattle.vd_sized.proofs.order.struct_order.Goals as goal

pub add-requires-clause-known : goal.add-requires-clause-known
add-requires-clause-known c =
    subst (IsMeant c.args.view.now) (sym c.known-item.is)
    (subst (All (IsMeant c.args.view.now)) (sym c.as_slice-known-items.ensures) c.in_ok-seen.ensures.meant c.loop-known.known-index c.known-item.result c.loop-known-test.true)
