use Rattle.std.proofs.Common.{[], sym, subst, arith, List}
use Rattle.vd_sized.specs.declared.order.StructSeen.{StructSeen}
use Rattle.vd_scopes.specs.Structs.{Passes}
use Rattle.vd_scopes.proofs.Filling.{passes_none, passes_more}
use Rattle.vd_scopes.proofs.structs.pass.Goals as goal

pub loop-known-init : goal.loop-known-init
loop-known-init c =
    let P : List StructSeen → Type 0 = λ left. Passes c.args.structs.now c.args.structs.now [] left in
    subst P (sym c.new-left.ensures) (passes_none c.args.structs.now)

pub loop-known-preserved : goal.loop-known-preserved
loop-known-preserved c =
    passes_more c.args.waiting.now c.loop-known.known-index c.known-item.result c.args.structs.now c.loop-known.structs c.visit.new.structs c.loop-known.left c.visit.new.left (omega arith) c.known-item.is c.loop-known.invariant
    c.in_ok-visit.ensures
