use Rattle.std.proofs.Common.{rules, refl, ◌∙◌}
use Rattle.vd_gate.proofs.TicketSteps.{load_ticket_allowed, draw_ticket_allowed}
use Rattle.vd_gate.proofs.Entering.{has_looked_self, has_looked_on, has_looked-ticket, has_looked-holds, has_looked-live}
use Rattle.vd_gate.specs.Steps.{HasLooked}
use Rattle.vd_gate.proofs.gate.Gate.draw.Goals as goal

pub loop-init : goal.loop-init
loop-init g c = (refl, refl, has_looked_self _)

pub load-ticket-requires : goal.load-ticket-requires
load-ticket-requires g c = (search rules, search rules, load_ticket_allowed _ _ _ _ _)

pub compare_exchange-requires : goal.compare_exchange-requires
compare_exchange-requires g c =
    let l : HasLooked c.args.seat.now.me c.load-ticket.new.seat.me = has_looked_on _ _ _ c.loop.invariant.2 c.load-ticket.ensures.2 in (
      search rules,
      search rules,
      draw_ticket_allowed _ _ _ _ _ _ _ (search rules) (has_looked-ticket _ _ l ∙ c.requires.free.0) (has_looked-holds _ _ l ∙ c.requires.free.1) (has_looked-live _ _ l ∙ c.requires.live),
    )
