use Rattle.std.proofs.Common.{◌≡◌, ℕ, List, Option, None, ◌∷◌, ◌≤◌, refl, ap, sym, subst, ◌∙◌}
use mathlib.Core.List.{IsPrefix}
use Rattle.vd_gate.specs.declared.story.PastTurn.{PastTurn}
use Rattle.vd_gate.specs.Turns.{entries_by, HasLists}
use Rattle.vd_gate.specs.Passes.{IsFree}
use Rattle.vd_gate.proofs.Entering.{HasTurn, has_turn_of}
use Rattle.vd_gate.proofs.gate.Gate.enter.Given as given
use Rattle.vd_gate.proofs.gate.Gate.enter.Goals as goal

abbrev facts : (g : given.Over) (c : goal.After-of g) → HasTurn g.S.Story.stands c.wait_for-state.result c.args.pass.now.seat.me c.wait_for-state.new.seat.me
facts g c = has_turn_of g.S.Story.stands c.args.pass.now.seat.me c.draw-ticket.new.seat.me c.wait_for-state.new.seat.me _ _ c.draw-ticket.ensures.drawn c.wait_for-state.ensures.entered

abbrev turns : (g : given.Over) (c : goal.After-of g) → c.wait_for-state.new.seat.me.0.seen ≡ c.of.result.value.me.0.seen
turns g c = sym (ap (λ s. s.me.0.seen) c.of.ensures)

pub returns-clause-mine : goal.returns-clause-mine
returns-clause-mine g c = let h = facts g c in λ n es d. subst (λ (l : List (PastTurn g.row.S-Entry.Denot)). entries_by n l ≡ es) (turns g c) (h.mine n es d)

pub returns-clause-seen : goal.returns-clause-seen
returns-clause-seen g c = let h = facts g c in subst (λ (l : List (PastTurn g.row.S-Entry.Denot)). IsPrefix c.args.pass.now.seat.me.0.seen l) (turns g c) h.seen

pub returns-clause-state : goal.returns-clause-state
returns-clause-state g c = let h = facts g c in subst (λ (l : List (PastTurn g.row.S-Entry.Denot)). g.S.Story.stands c.args.pass.now.seat.me.0.base c.wait_for-state.result l) (turns g c) h.for

pub returns-clause-pass : goal.returns-clause-pass
returns-clause-pass g c =
    let h = facts g c in
    let free : IsFree c.args.pass.now = c.requires.pass.1 in
    let view = h.view_is in (
      (c.wait_for-state.ensures.seat.0 ∙ (c.draw-ticket.ensures.seat.0 ∙ c.requires.pass.0.0), ap (λ v. v.base) view ∙ c.requires.pass.0.1),
      record {
        usable = record {
          live = ap (λ v. v.live) view ∙ free.usable.live;
          given = ap (λ v. v.drawn) view ∙ free.usable.given;
          number = free.usable.number ∙ sym (ap (λ v. v.number) view);
          below = free.usable.below;
          made = (free.usable.made.0 ∙ sym (ap (λ v. v.made) view), subst (λ (n : ℕ). n ≤ 64) (sym (ap (λ v. v.made) view)) free.usable.made.1);
          lists = subst (λ (l : List (ℕ × List g.row.S-Entry.Denot)). HasLists c.args.pass.now.number l) (sym (ap (λ v. v.mine) view)) free.usable.lists;
        };
        turn = ap (λ v. v.holds) view;
        slot = h.slot ∙ ap (λ (r : List (ℕ × Option g.row.S.Denot)). (0, None) ∷ r) free.no_slot;
        same_gate = ap (λ s. s.table_id) c.of.ensures;
        same_pass = ap (λ s. s.id) c.of.ensures;
        turns = ap (λ s. s.me.0.seen) c.of.ensures;
      },
      record { number = refl; base_is = ap (λ v. v.base) view; mine = ap (λ v. v.mine) view; blank = ap (λ v. v.blank) view; made = ap (λ v. v.made) view },
    )
