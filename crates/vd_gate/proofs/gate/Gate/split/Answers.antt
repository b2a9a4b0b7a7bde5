use Rattle.std.proofs.Common.{rules, arith, ◌≡◌, ◌+◌, ◌-◌, ◌<◌, refl, ap, sym, ◌∙◌}
use Rattle.vd_gate.proofs.SeatSteps.{draw_number_allowed, split_allowed}
use Rattle.vd_gate.proofs.Freeing.{free_when_new}
use Rattle.vd_gate.proofs.gate.Gate.split.Goals as goal

pub compare_exchange-requires : goal.compare_exchange-requires
compare_exchange-requires g c =
    let free = c.requires.pass.1.usable in
    let below : c.args.pass.now.made < 64 = search rules in (
      search rules,
      search rules,
      draw_number_allowed _ _ _ _ _ _ _ (sym free.number ∙ c.requires.first) free.live free.given (sym free.made.0) below refl,
    )

pub split_seat-seat-requires : goal.split_seat-seat-requires
split_seat-seat-requires g c =
    let free = c.requires.pass.1.usable in
    let view = c.compare_exchange.ensures.2.1 in (
      search rules,
      search rules,
      split_allowed _ _ _ _ (ap (λ v. v.number) view ∙ (sym free.number ∙ c.requires.first)) (ap (λ v. v.live) view ∙ free.live) (ap (λ v. v.drawn) view),
    )

pub returns-clause-ok : goal.returns-clause-ok
returns-clause-ok g c =
    let below : c.args.pass.now.made < 64 = search rules in
    let counted : c.compare_exchange.new.seat.me.0.made ≡ c.args.pass.now.made + 1 = ap (λ v. v.made) c.compare_exchange.ensures.2.1 ∙ ap (λ n. n + 1) (sym c.requires.pass.1.usable.made.0) in
    let number : c.args.pass.now.made ≡ c.compare_exchange.new.seat.me.0.made - 1 = omega arith in (
      search rules,
      free_when_new _ _ _ _ c.split_seat-seat.ensures.4 number (omega arith) (omega arith),
      search rules,
    )
