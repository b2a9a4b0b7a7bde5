use Rattle.std.proofs.Common.{rules, refl, ap}
use Rattle.vd_gate.proofs.SeatSteps.{join_allowed, learn_allowed}
use Rattle.vd_gate.proofs.Joining.{takes_over_of, view_numbers_of}
use Rattle.vd_gate.specs.Views.{SeatState}
use Rattle.vd_gate.proofs.Freeing.{free_after_join}
use Rattle.vd_gate.proofs.gate.Gate.take_over.Goals as goal

pub join_seat-requires : goal.join_seat-requires
join_seat-requires g c = (
  search rules,
  search rules,
  search rules,
  search rules,
  join_allowed _ _ _ _ _ _ c.requires.pass.1.no_ticket c.requires.pass.1.no_turn c.requires.other.1.no_ticket c.requires.other.1.no_turn c.requires.other.1.usable.live c.requires.pass.1.usable.live
      (view_numbers_of c.args.pass.now c.args.other c.requires.pass.1 c.requires.other.1 c.requires.first),
)

pub load-requires : goal.load-requires
load-requires g c = (search rules, search rules, learn_allowed _ _ _ _ _)

pub returns-clause-taken : goal.returns-clause-taken
returns-clause-taken g c =
    takes_over_of c.args.pass.now c.args.other _ c.join_seat.new.seat.me.0 refl (ap (λ (m : SeatState g.row.S.Denot g.row.S-Entry.Denot). m.0) c.join_seat.ensures.2) c.load.ensures.2.1 c.load.ensures.2.2

pub returns-clause-pass : goal.returns-clause-pass
returns-clause-pass g c = (search rules, free_after_join c.args.pass.now _ c.args.other.seat.me.0 _ c.requires.pass.1 c.join_seat.ensures.2 refl refl c.load.ensures.2.0 c.load.ensures.2.1 c.load.ensures.2.3)
