use Rattle.std.proofs.Common.{sym, subst}
use Rattle.std.specs.List.{All}
use Rattle.vd_sized.specs.Seen.{AreOpen, IsMeant}
use Rattle.vd_sized.proofs.Seeing.{last_open, none_open, opened}
use Rattle.vd_sized.proofs.order.Order.add.Goals as goal

pub advance-requires-clause-structs : goal.advance-requires-clause-structs
advance-requires-clause-structs c = c.loop.invariant.structs

pub advance-requires-clause-at : goal.advance-requires-clause-at
advance-requires-clause-at c = (last_open c.args.view.now c.pop.new.self c.in-Some.at c.loop.stack c.in-Some.ensures c.loop.invariant.stack).1

pub advance-requires-clause-stack : goal.advance-requires-clause-stack
advance-requires-clause-stack c = (last_open c.args.view.now c.pop.new.self c.in-Some.at c.loop.stack c.in-Some.ensures c.loop.invariant.stack).0

pub loop-init : goal.loop-init
loop-init c = record {
  structs = subst (All (IsMeant c.args.view.now)) (sym c.in_ok-meet.ensures.structs) c.requires.structs;
  stack = opened c.args.view.now c.args.known c.new-stack.result c.meet.new.stack (subst (AreOpen c.args.view.now) (sym c.new-stack.ensures) (none_open c.args.view.now)) c.requires.known c.in_ok-meet.ensures.stack;
}
