use Rattle.std.specs.List.{All}
use Rattle.vd_sized.specs.Seen.{AreOpen, IsMeant}
use Rattle.vd_sized.proofs.order.Order.add.Given as goal

abbrev pub invariant-loop : goal.invariant-loop
invariant-loop l = record { structs : All (IsMeant l.view) l.self.structs; stack : AreOpen l.view l.stack }
