use Rattle.std.proofs.Common.{◌∙◌, map, refl, string_bytes, subst, sym}
use Rattle.std.proofs.lemmas.List.{length-map}
use Rattle.vd_base.specs.Shelf.{Agrees}
use Rattle.vd_commands.specs.Command.{Play}
use Rattle.vd_commands.specs.Gathering.{IsRunRead, IsScheduleOf}
use Rattle.vd_commands.specs.Reading.{IsRead}
use Rattle.vd_commands.specs.Seen.{ShelfSeen, SinkSeen}
use Rattle.vd_commands.specs.Steps.{ReadStops}
use Rattle.vd_commands.specs.declared.inputs.Schedule.TheVariants as schedule
use Rattle.vd_commands.proofs.ReadLaws.{read_length, stops_of_later}
use Rattle.vd_commands.proofs.Runs.{bad_schedule, run_read}
use Rattle.vd_commands.proofs.Schedules.{few_turns}
use Rattle.vd_commands.proofs.play.play.Goals as goal

pub returns-in-Err-clause-means : goal.returns-in-Err-clause-means
returns-in-Err-clause-means g c = λ words asked.
    let shelf : ShelfSeen = record { held = g.H.Shelf.held c.args.shelf.now; taken = g.H.Shelf.taken c.args.shelf.now; taken_after = g.H.Shelf.taken c.read_schedule.new.shelf; faults = g.H.Shelf.faults c.args.shelf.now; faults_after = g.H.Shelf.faults c.read_schedule.new.shelf } in
    let out : SinkSeen = record { written = g.K.Sink.written c.args.out.now; written_after = g.K.Sink.written c.args.out.now; faults = g.K.Sink.faults c.args.out.now; faults_after = g.K.Sink.faults c.args.out.now } in
    let files = map string_bytes c.args.files.now in
    c.ending_of.ensures words (Play c.args.link.now (string_bytes c.args.schedule.now) files) shelf out asked (c.in-Err.ensures.stops c.args.link.now files) (refl, refl)

pub returns-in-Err-read_texts-clause-means : goal.returns-in-Err-read_texts-clause-means
returns-in-Err-read_texts-clause-means g c = λ words asked.
    let shelf : ShelfSeen = record { held = g.H.Shelf.held c.args.shelf.now; taken = g.H.Shelf.taken c.args.shelf.now; taken_after = g.H.Shelf.taken c.read_texts.new.shelf; faults = g.H.Shelf.faults c.args.shelf.now; faults_after = g.H.Shelf.faults c.read_texts.new.shelf } in
    let out : SinkSeen = record { written = g.K.Sink.written c.args.out.now; written_after = g.K.Sink.written c.args.out.now; faults = g.K.Sink.faults c.args.out.now; faults_after = g.K.Sink.faults c.args.out.now } in
    let file = string_bytes c.args.schedule.now in
    let command = Play c.args.link.now file (map string_bytes c.args.files.now) in
    let all = c.in-Ok.ensures.read in
    let now : IsRead (g.H.Shelf.held c.read_schedule.new.shelf) file all.0 = (subst (λ h. Agrees h all.0) (sym (c.in-Ok.ensures.held file)) all.1.0, all.1.1) in
    let stops : ReadStops command shelf c.in-Err-read_texts.fault =
    stops_of_later command (g.H.Shelf.held c.args.shelf.now) (g.H.Shelf.held c.read_schedule.new.shelf) (g.H.Shelf.taken c.args.shelf.now) (g.H.Shelf.taken c.read_schedule.new.shelf) (g.H.Shelf.taken c.read_texts.new.shelf)
    (g.H.Shelf.faults c.args.shelf.now) (g.H.Shelf.faults c.read_schedule.new.shelf) (g.H.Shelf.faults c.read_texts.new.shelf) c.in-Err-read_texts.fault c.in-Ok.ensures.held c.in-Ok.ensures.taken c.in-Ok.ensures.faults
    (c.in-Err-read_texts.ensures.stops c.args.link.now file all.0 now (few_turns all.0 c.in-Ok.read all.2)) in
    c.ending_of-in-Err-read_texts.ensures words command shelf out asked stops (refl, refl)

pub play_read-requires-clause-same : goal.play_read-requires-clause-same
play_read-requires-clause-same g c =
    sym (length-map c.args.files.now string_bytes) ∙ read_length (g.H.Shelf.held c.read_schedule.new.shelf) (map string_bytes c.args.files.now) c.in-Ok-read_texts.texts c.in-Ok-read_texts.ensures.read

pub returns-in-Turns-clause-means : goal.returns-in-Turns-clause-means
returns-in-Turns-clause-means g c = λ words asked.
    let shelf : ShelfSeen = record { held = g.H.Shelf.held c.args.shelf.now; taken = g.H.Shelf.taken c.args.shelf.now; taken_after = g.H.Shelf.taken c.read_texts.new.shelf; faults = g.H.Shelf.faults c.args.shelf.now; faults_after = g.H.Shelf.faults c.read_texts.new.shelf } in
    let file = string_bytes c.args.schedule.now in
    let files = map string_bytes c.args.files.now in
    let all = c.in-Ok.ensures.read in
    let run : IsRunRead words shelf c.args.link.now file files all.0 c.in-Ok-read_texts.texts =
    run_read words shelf (g.H.Shelf.held c.read_schedule.new.shelf) c.args.link.now file files all.0 c.in-Ok-read_texts.texts asked c.in-Ok.ensures.held all.1 (few_turns all.0 c.in-Ok.read all.2)
    c.in-Ok-read_texts.ensures.read c.in-Ok-read_texts.ensures.bytes c.in-Ok-read_texts.ensures.names in
    let turns : IsScheduleOf all.0 (schedule.Turns c.in-Turns.turns) = subst (λ s. IsScheduleOf all.0 s) c.in-Turns.is all.2 in
    c.play_read.ensures.means words shelf file all.0 run turns.1

pub returns-in-Malformed-clause-means : goal.returns-in-Malformed-clause-means
returns-in-Malformed-clause-means g c = λ words asked.
    let shelf : ShelfSeen = record { held = g.H.Shelf.held c.args.shelf.now; taken = g.H.Shelf.taken c.args.shelf.now; taken_after = g.H.Shelf.taken c.read_texts.new.shelf; faults = g.H.Shelf.faults c.args.shelf.now; faults_after = g.H.Shelf.faults c.read_texts.new.shelf } in
    let file = string_bytes c.args.schedule.now in
    let files = map string_bytes c.args.files.now in
    let all = c.in-Ok.ensures.read in
    let run : IsRunRead words shelf c.args.link.now file files all.0 c.in-Ok-read_texts.texts =
    run_read words shelf (g.H.Shelf.held c.read_schedule.new.shelf) c.args.link.now file files all.0 c.in-Ok-read_texts.texts asked c.in-Ok.ensures.held all.1 (few_turns all.0 c.in-Ok.read all.2)
    c.in-Ok-read_texts.ensures.read c.in-Ok-read_texts.ensures.bytes c.in-Ok-read_texts.ensures.names in
    let bad : IsScheduleOf all.0 (schedule.Malformed c.in-Malformed.line) = subst (λ s. IsScheduleOf all.0 s) c.in-Malformed.is all.2 in
    (bad_schedule words shelf c.args.link.now file files all.0 c.in-Ok-read_texts.texts c.as_str.result.now c.in-Malformed.line c.as_str.ensures.value run bad.1, (refl, refl))
