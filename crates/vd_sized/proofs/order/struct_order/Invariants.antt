use Rattle.std.specs.List.{All}
use Rattle.vd_sized.specs.Seen.{IsMeant}
use Rattle.vd_sized.proofs.order.struct_order.Given as goal

abbrev pub invariant-loop-known : goal.invariant-loop-known
invariant-loop-known l = All (IsMeant l.view) l.order.structs
