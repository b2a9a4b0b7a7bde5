use Rattle.std.proofs.Common.{refl, string_bytes, [], arith}
use Rattle.vd_commands.specs.Command.{Play}
use Rattle.vd_commands.specs.Seen.{ShelfSeen}
use Rattle.vd_commands.proofs.ReadLaws.{file_stops}
use Rattle.vd_commands.proofs.Schedules.{file_schedule, file_turns_stop}
use Rattle.vd_commands.proofs.inputs.read_schedule.Goals as goal

pub returns-in-Ok-clause-read : goal.returns-in-Ok-clause-read
returns-in-Ok-clause-read g c = file_schedule (g.H.Shelf.held c.args.shelf.now) (string_bytes c.args.file.now) c.in-Ok.text c.as_bytes.result.now c.as_str.result.now c.schedule_of.result c.in-Ok.ensures.read c.as_bytes.ensures c.schedule_of.ensures

pub returns-in-Ok-clause-stops : goal.returns-in-Ok-clause-stops
returns-in-Ok-clause-stops g c = λ link files.
    let shelf : ShelfSeen = record { held = g.H.Shelf.held c.args.shelf.now; taken = g.H.Shelf.taken c.args.shelf.now; taken_after = g.H.Shelf.taken c.read_file.new.shelf; faults = g.H.Shelf.faults c.args.shelf.now; faults_after = g.H.Shelf.faults c.read_file.new.shelf } in
    file_turns_stop link (string_bytes c.args.file.now) c.in-Ok.text c.as_bytes.result.now c.as_str.result.now files shelf c.schedule_of.result c.in-Ok.ensures.read c.as_bytes.ensures c.as_str.ensures.value c.schedule_of.ensures

pub returns-in-Err-clause-stops : goal.returns-in-Err-clause-stops
returns-in-Err-clause-stops g c = λ link files. file_stops (Play link (string_bytes c.args.file.now) files) (g.H.Shelf.held c.args.shelf.now) (g.H.Shelf.held c.args.shelf.now)
    [] files [] (string_bytes c.args.file.now) (g.H.Shelf.taken c.args.shelf.now) (g.H.Shelf.taken c.args.shelf.now) (g.H.Shelf.taken c.read_file.new.shelf) (g.H.Shelf.faults c.args.shelf.now) (g.H.Shelf.faults c.args.shelf.now) (g.H.Shelf.faults c.read_file.new.shelf) c.in-Err.fault
    refl tt tt (λ name. refl) (omega arith) (omega arith) c.in-Err.ensures.stops
