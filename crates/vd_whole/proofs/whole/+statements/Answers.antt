use Rattle.std.proofs.Common.{ap, ap₂, sym, ◌∙◌}
use Rattle.std.specs.List.{list_all}
use Rattle.vd_clight.specs.Whole.{is_whole_expression, takes}
use Rattle.vd_whole.proofs.Parts.{call_passes, callee_fails, spawn_fails, spawn_passes, target_fails}
use Rattle.vd_whole.proofs.whole.+statements.Goals as goal
use Rattle.vd_whole.proofs.whole.+statements.Goals.{is_whole_statement-then-is_whole_target, is_whole_statement-else-is_whole_target}

pub is_whole_statement-returns-then-takes : goal.is_whole_statement-returns-then-takes
is_whole_statement-returns-then-takes t c =
    let p = c.args.names.now.program.now in
    elim c.if-is_whole_target.branch [
      | is_whole_statement-then-is_whole_target w ↦ call_passes p c.args.temps c.args.s.now c.in-Call.x c.in-Call.f c.in-Call.es c.in-Call.is c.are_whole_expressions.result
          (sym c.is_whole_target.ensures ∙ w.if-is_whole_target.true)
          (sym (w.takes.ensures ∙ ap₂ (takes p) w.as_bytes.ensures.value w.len.ensures) ∙ (sym w.value-is ∙ c.if-takes.true))
          (c.are_whole_expressions.ensures ∙ ap (list_all (is_whole_expression p c.args.temps)) c.as_slice.ensures)
      | is_whole_statement-else-is_whole_target w ↦ absurd (cc (w.value-is, w.if-is_whole_target.false, c.if-takes.true))
    ]

pub is_whole_statement-returns-else-takes : goal.is_whole_statement-returns-else-takes
is_whole_statement-returns-else-takes t c =
    let p = c.args.names.now.program.now in
    c.if-takes.false ∙ elim c.if-is_whole_target.branch [
      | is_whole_statement-then-is_whole_target w ↦ callee_fails p c.args.temps c.args.s.now c.in-Call.x c.in-Call.f c.in-Call.es c.in-Call.is
          (sym (w.takes.ensures ∙ ap₂ (takes p) w.as_bytes.ensures.value w.len.ensures) ∙ (sym w.value-is ∙ c.if-takes.false))
      | is_whole_statement-else-is_whole_target w ↦ target_fails p c.args.temps c.args.s.now c.in-Call.x c.in-Call.f c.in-Call.es c.in-Call.is (sym c.is_whole_target.ensures ∙ w.if-is_whole_target.false)
    ]

pub is_whole_statement-returns-then-takes-2 : goal.is_whole_statement-returns-then-takes-2
is_whole_statement-returns-then-takes-2 t c =
    let p = c.args.names.now.program.now in
    spawn_passes p c.args.temps c.args.s.now c.in-Spawn.f c.in-Spawn.e c.in-Spawn.is c.is_whole_expression-then-takes-2.result
    (sym (c.takes-in-Spawn.ensures ∙ ap (λ name. takes p name 1) c.as_bytes-in-Spawn.ensures.value) ∙ c.if-takes-2.true) c.is_whole_expression-then-takes-2.ensures

pub is_whole_statement-returns-else-takes-2 : goal.is_whole_statement-returns-else-takes-2
is_whole_statement-returns-else-takes-2 t c =
    let p = c.args.names.now.program.now in
    c.if-takes-2.false ∙ spawn_fails p c.args.temps c.args.s.now c.in-Spawn.f c.in-Spawn.e c.in-Spawn.is
    (sym (c.takes-in-Spawn.ensures ∙ ap (λ name. takes p name 1) c.as_bytes-in-Spawn.ensures.value) ∙ c.if-takes-2.false)
