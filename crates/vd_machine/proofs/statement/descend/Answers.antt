use Rattle.std.proofs.Common.{◌≤◌, ◌+◌, ◌∷◌, ◌++◌, [], sym, ◌∙◌, ap, subst}
use Rattle.std.specs.Vec.{vec_len, vec_capacity}
use Rattle.vd_machine.specs.Room.{IsRoomy, depth_of}
use Rattle.vd_machine.proofs.Rooms.{roomy_in}
use Rattle.vd_machine.proofs.statement.descend.Goals as goal

pub returns-clause-roomy : goal.returns-clause-roomy
returns-clause-roomy c = λ r h.
    let top = c.args.thread.now.top in
    let caller = c.replace-caller.result in
    let same : IsRoomy (record { level = c.pass.new.level; below = top.below; temps = top.temps }) =
    (h.0.0, subst (λ l. vec_len top.below + depth_of l.list.now ≤ vec_capacity top.below) (sym c.pass.ensures) h.0.1) in
    let waits : IsRoomy caller = subst IsRoomy (sym c.replace-caller.ensures.value) same in (
      subst IsRoomy (sym c.replace-caller.ensures.after) r,
      roomy_in c.args.thread.now.waiting.items c.push_reserved.new.self.items (record { frame = caller; target = c.args.target })
          (c.push_reserved.ensures.items ∙ ap (λ ws. ws ++ record { frame = caller; target = c.args.target } ∷ []) c.reserve.ensures.items) h.1 waits,
    )
