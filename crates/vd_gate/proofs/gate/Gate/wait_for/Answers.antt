use Rattle.std.proofs.Common.{rules, ap, ◌∙◌}
use Rattle.vd_gate.specs.Views.{SeatState}
use Rattle.vd_gate.proofs.TicketSteps.{load_serving_allowed}
use Rattle.vd_gate.proofs.Entering.{takes_turn_of, slot_of_turn, has_entered_of}
use Rattle.vd_gate.proofs.gate.Gate.wait_for.Goals as goal

pub load-serving-requires : goal.load-serving-requires
load-serving-requires g c = (
  search rules,
  search rules,
  load_serving_allowed _ _ _ _ c.requires.drawn.0 _
      (ap (λ (m : SeatState g.row.S.Denot g.row.S-Entry.Denot). m.0.ticket) c.loop.invariant.2 ∙ c.requires.drawn.1)
      (ap (λ (m : SeatState g.row.S.Denot g.row.S-Entry.Denot). m.0.holds) c.loop.invariant.2 ∙ c.requires.free),
)

pub exchange-requires : goal.exchange-requires
exchange-requires g c = (
  search rules,
  slot_of_turn g.S.Story.stands c.args.seat.now.me c.load-serving.new.seat.me (takes_turn_of g.S.Story.stands c.args.seat.now.me c.loop.seat.me c.load-serving.new.seat.me _ _ _ c.loop.invariant.2 c.requires.drawn.1 c.requires.drawn.2 c.if-serving-ticket.true c.load-serving.ensures.2),
)

pub returns-then-serving-ticket-clause-entered : goal.returns-then-serving-ticket-clause-entered
returns-then-serving-ticket-clause-entered g c =
    has_entered_of g.S.Story.stands c.args.seat.now.me c.load-serving.new.seat.me c.exchange.new.seat.me _ _ (takes_turn_of g.S.Story.stands c.args.seat.now.me c.loop.seat.me c.load-serving.new.seat.me _ _ _ c.loop.invariant.2 c.requires.drawn.1 c.requires.drawn.2 c.if-serving-ticket.true c.load-serving.ensures.2)
    c.exchange.ensures.2 c.exchange.ensures.3 c.in-Some-exchange.is
