use Rattle.std.proofs.Common.{map, string_bytes, refl}
use Rattle.vd_commands.specs.Answer.{Checks, answer_of}
use Rattle.vd_commands.specs.Call.{IsAnswered}
use Rattle.vd_commands.specs.Command.{Check}
use Rattle.vd_commands.specs.Seen.{ShelfSeen, SinkSeen}
use Rattle.vd_commands.proofs.Endings.{finish_means}
use Rattle.vd_commands.proofs.check.check.Goals as goal

pub returns-in-Ok-Some-clause-means : goal.returns-in-Ok-Some-clause-means
returns-in-Ok-Some-clause-means g c = λ words asked.
    let shelf : ShelfSeen = record { held = g.H.Shelf.held c.args.shelf.now; taken = g.H.Shelf.taken c.args.shelf.now; taken_after = g.H.Shelf.taken c.read_files.new.shelf; faults = g.H.Shelf.faults c.args.shelf.now; faults_after = g.H.Shelf.faults c.read_files.new.shelf } in
    let out : SinkSeen = record { written = g.K.Sink.written c.args.out.now; written_after = g.K.Sink.written c.put_outcome.new.out; faults = g.K.Sink.faults c.args.out.now; faults_after = g.K.Sink.faults c.put_outcome.new.out } in
    let checks : Checks c.args.link.now c.in-Ok.texts (answer_of c.args.link.now c.in-Ok-Some.outcome) = rw c.in-Ok-Some.field-0-is at c.in-Ok-Some.ensures in
    let answered : IsAnswered words shelf (answer_of c.args.link.now c.in-Ok-Some.outcome) = record { command = Check c.args.link.now (map string_bytes c.args.files.now); asked = asked; texts = c.in-Ok.texts; read = c.in-Ok.ensures.read; within = tt; answers = checks } in
    finish_means words shelf out (answer_of c.args.link.now c.in-Ok-Some.outcome) c.put_outcome.result answered c.put_outcome.ensures.finishes

pub returns-in-Err-clause-means : goal.returns-in-Err-clause-means
returns-in-Err-clause-means g c = λ words asked.
    let shelf : ShelfSeen = record { held = g.H.Shelf.held c.args.shelf.now; taken = g.H.Shelf.taken c.args.shelf.now; taken_after = g.H.Shelf.taken c.read_files.new.shelf; faults = g.H.Shelf.faults c.args.shelf.now; faults_after = g.H.Shelf.faults c.read_files.new.shelf } in
    let out : SinkSeen = record { written = g.K.Sink.written c.args.out.now; written_after = g.K.Sink.written c.args.out.now; faults = g.K.Sink.faults c.args.out.now; faults_after = g.K.Sink.faults c.args.out.now } in
    c.ending_of.ensures words (Check c.args.link.now (map string_bytes c.args.files.now)) shelf out asked (c.in-Err.ensures.stops c.args.link.now) (refl, refl)
