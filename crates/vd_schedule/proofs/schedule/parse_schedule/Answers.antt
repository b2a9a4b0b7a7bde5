use Rattle.std.proofs.Common.{subst, rules}
use Rattle.vd_schedule.specs.Entries.{AreBefore}
use Rattle.vd_schedule.specs.Schedule.{IsOrMemory}
use Rattle.vd_schedule.specs.Answer.{answer_of}
use Rattle.vd_schedule.proofs.Readings.{answers_schedule, answers_too_many, answers_malformed}
use Rattle.vd_schedule.proofs.schedule.parse_schedule.Goals as goal

pub returns-clause-schedule : goal.returns-clause-schedule
returns-clause-schedule c =
    let before : AreBefore c.args.bytes.now c.in_ok-entries.entries c.in_ok-entries.rest.now = search rules in
    answers_schedule c.args.bytes.now c.in_ok-entries.entries c.in_ok-entries.rest.now c.schedule_from.result before (subst (λ es. IsOrMemory c.schedule_from.result (answer_of es c.in_ok-entries.rest.now)) c.as_slice.ensures c.schedule_from.ensures)

pub returns-clause-beyond : goal.returns-clause-beyond
returns-clause-beyond c =
    let before : AreBefore c.args.bytes.now c.in_ok-entries.entries c.in_ok-entries.rest.now = search rules in
    answers_too_many c.args.bytes.now c.in_ok-entries.entries c.in_ok-entries.rest.now c.schedule_from.result before (subst (λ es. IsOrMemory c.schedule_from.result (answer_of es c.in_ok-entries.rest.now)) c.as_slice.ensures c.schedule_from.ensures)

pub returns-clause-malformed : goal.returns-clause-malformed
returns-clause-malformed c =
    let before : AreBefore c.args.bytes.now c.in_ok-entries.entries c.in_ok-entries.rest.now = search rules in
    answers_malformed c.args.bytes.now c.in_ok-entries.entries c.in_ok-entries.rest.now c.schedule_from.result before (subst (λ es. IsOrMemory c.schedule_from.result (answer_of es c.in_ok-entries.rest.now)) c.as_slice.ensures c.schedule_from.ensures)
