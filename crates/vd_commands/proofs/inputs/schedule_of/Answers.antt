use Rattle.std.proofs.Common.{◌≡◌, ◌∙◌, ap, Err}
use Rattle.vd_schedule.specs.declared.schedule.ScheduleFault.TheVariants.{Bad}
use Rattle.vd_commands.proofs.Schedules.{read_turns, read_bad}
use Rattle.vd_commands.proofs.inputs.schedule_of.Goals as goal

pub returns-in-Ok : goal.returns-in-Ok
returns-in-Ok c = read_turns c.args.bytes.now c.in-Ok.turns c.parse_schedule.result c.in-Ok.is c.parse_schedule.ensures.turns c.parse_schedule.ensures.beyond c.parse_schedule.ensures.malformed

pub returns-in-Err-Bad : goal.returns-in-Err-Bad
returns-in-Err-Bad c =
    let is : c.parse_schedule.result ≡ Err (Bad c.in-Err-Bad.line) = c.in-Err-Bad.is ∙ ap Err c.in-Err-Bad.field-0-is in
    read_bad c.args.bytes.now c.in-Err-Bad.line c.parse_schedule.result is c.parse_schedule.ensures.beyond (c.parse_schedule.ensures.bad c.in-Err-Bad.line is)
