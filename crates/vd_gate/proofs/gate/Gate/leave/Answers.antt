use Rattle.std.proofs.Common.{rules, refl, ap, sym, subst, ℕ, List, ◌++◌, ◌∷◌, [], ◌∙◌}
use Rattle.vd_gate.specs.declared.story.PastTurn.{PastTurn}
use Rattle.vd_gate.specs.Views.{SeatState}
use Rattle.vd_gate.proofs.TicketSteps.{advance_allowed}
use Rattle.vd_gate.proofs.Freeing.{free_after_turn}
use Rattle.vd_gate.proofs.gate.Gate.leave.Goals as goal

pub fetch_add-serving-requires : goal.fetch_add-serving-requires
fetch_add-serving-requires g c =
    let e = c.exchange-slot.ensures.3 in
    let t : PastTurn g.row.S-Entry.Denot = c.requires.next.0 in (
      search rules,
      search rules,
      advance_allowed _ _ _ _ _ _ c.args.state t
          (ap (λ (m : SeatState g.row.S.Denot g.row.S-Entry.Denot). m.1) e)
          (ap (λ (m : SeatState g.row.S.Denot g.row.S-Entry.Denot). m.0.holds) e ∙ c.requires.pass.1.turn)
          (c.requires.next.1.number ∙ (c.requires.pass.1.usable.number ∙ sym (ap (λ (m : SeatState g.row.S.Denot g.row.S-Entry.Denot). m.0.number) e)))
          (subst (λ (p : ℕ × List (PastTurn g.row.S-Entry.Denot)). g.S.Story.stands p.0 c.args.state (p.1 ++ t ∷ []))
          (λ i. (sym (ap (λ (m : SeatState g.row.S.Denot g.row.S-Entry.Denot). m.0.base) e) i, (c.requires.pass.1.turns ∙ sym (ap (λ (m : SeatState g.row.S.Denot g.row.S-Entry.Denot). m.0.seen) e)) i)) c.requires.next.1.after),
    )

pub returns-then-peek-serving-clause-pass : goal.returns-then-peek-serving-clause-pass
returns-then-peek-serving-clause-pass g c = (
  search rules,
  free_after_turn c.args.pass.now _ c.fetch_add-serving.ensures.2.0 _ _ c.requires.pass.1.usable c.requires.pass.1.slot c.exchange-slot.ensures.3 refl refl c.fetch_add-serving.ensures.2.5 c.fetch_add-serving.ensures.2.6,
)

pub returns-else-peek-serving-clause-pass : goal.returns-else-peek-serving-clause-pass
returns-else-peek-serving-clause-pass g c = (
  search rules,
  free_after_turn c.args.pass.now _ c.fetch_add-serving.ensures.2.0 _ _ c.requires.pass.1.usable c.requires.pass.1.slot c.exchange-slot.ensures.3 refl refl c.fetch_add-serving.ensures.2.5 c.fetch_add-serving.ensures.2.6,
)
