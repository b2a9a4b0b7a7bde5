use Rattle.std.proofs.Common.{sym, subst}
use Rattle.std.specs.List.{All}
use Rattle.std.proofs.lemmas.List.Elements.{All-push}
use Rattle.vd_sized.specs.Seen.{IsMeant}
use Rattle.vd_sized.proofs.Seeing.{on_ok, always, one_open, opened}
use Rattle.vd_sized.proofs.order.Order.advance.Goals as goal

pub returns-in_default-clause-structs : goal.returns-in_default-clause-structs
returns-in_default-clause-structs c =
    on_ok c.push.result (λ e. subst (All (IsMeant c.args.view.now)) (sym e) (All-push (IsMeant c.args.view.now) c.args.self.now.structs c.args.at.known c.requires.structs c.requires.at)) c.push.ensures.ok

pub returns-in_default-held-clause-stack : goal.returns-in_default-held-clause-stack
returns-in_default-held-clause-stack c = one_open c.args.view.now c.args.stack.now c.push-2.new.self _ c.requires.stack c.requires.at c.in_ok-push.ensures.ok

pub returns-in-None-clause-stack : goal.returns-in-None-clause-stack
returns-in-None-clause-stack c = one_open c.args.view.now c.args.stack.now c.push-2.new.self _ c.requires.stack c.requires.at c.in_ok-push.ensures.ok

pub returns-in-Some-struct_meant-clause-structs : goal.returns-in-Some-struct_meant-clause-structs
returns-in-Some-struct_meant-clause-structs c = always c.meet.result (subst (All (IsMeant c.args.view.now)) (sym c.meet.ensures.structs) c.requires.structs)

pub returns-in-Some-struct_meant-clause-stack : goal.returns-in-Some-struct_meant-clause-stack
returns-in-Some-struct_meant-clause-stack c =
    on_ok c.meet.result (λ h. opened c.args.view.now c.in-Some-struct_meant.known c.push-2.new.self c.meet.new.stack
    (one_open c.args.view.now c.args.stack.now c.push-2.new.self _ c.requires.stack c.requires.at c.in_ok-push.ensures.ok) c.in-Some-struct_meant.ensures.1 h) c.meet.ensures.stack
