use Rattle.std.proofs.Common.{◌<◌, All, List, ℕ, arith, length, map, refl, string_bytes, subst}
use Rattle.std.proofs.lemmas.Option.{slice_get_within}
use Rattle.vd_linkage.specs.Form.{IsPlainText}
use Rattle.vd_schedule.specs.Schedule.{IsSchedule}
use Rattle.vd_commands.specs.Answer.{Plays}
use Rattle.vd_commands.specs.Gathering.{answer_in}
use Rattle.vd_commands.specs.Seen.{SinkSeen}
use Rattle.vd_commands.specs.Submission.{IsFirstHeadlessAt, IsHeaded}
use Rattle.vd_commands.specs.Wellformed.{IsFirstHeadless}
use Rattle.vd_commands.proofs.Runs.{headless_file, outside_means, run_means}
use Rattle.vd_commands.proofs.Submitting.{first_headless}
use Rattle.vd_commands.proofs.Words.{got}
use Rattle.vd_commands.proofs.play.play_read.Goals as goal

pub returns-in-Some-clause-means : goal.returns-in-Some-clause-means
returns-in-Some-clause-means g c = λ words shelf file read run sole.
    let first : IsFirstHeadlessAt c.as_slice.result.now c.in-Some.at = rw c.in-Some.is at c.in-Ok.ensures in
    let here : IsFirstHeadlessAt c.args.texts c.in-Some.at = subst (λ ts. IsFirstHeadlessAt ts c.in-Some.at) c.as_slice.ensures first in
    let within : c.in-Some.at < length c.args.texts = slice_get_within c.args.texts c.in-Some.at here.text here.here in
    let file_headless : IsFirstHeadless (map string_bytes c.args.files.now) c.args.texts (string_bytes c.index-files-at.result) =
    first_headless (map string_bytes c.args.files.now) c.args.texts c.in-Some.at (string_bytes c.index-files-at.result) here
    (got string_bytes c.args.files.now c.in-Some.at c.index-files-at.result (omega (arith, within, c.requires.same)) c.index-files-at.is) in
    (headless_file words shelf c.args.link.now file (map string_bytes c.args.files.now) read c.args.texts c.args.turns.now (string_bytes c.index-files-at.result) c.as_str.result.now c.as_str.ensures.value run sole file_headless, (refl, refl))

pub returns-in-Ok-Some-clause-means : goal.returns-in-Ok-Some-clause-means
returns-in-Ok-Some-clause-means g c = λ words shelf file read run sole.
    let out : SinkSeen = record { written = g.K.Sink.written c.args.out.now; written_after = g.K.Sink.written c.put_played.new.out; faults = g.K.Sink.faults c.args.out.now; faults_after = g.K.Sink.faults c.put_played.new.out } in
    let plays : (schedule : List ℕ) → IsSchedule schedule c.args.turns.now → Plays c.args.link.now schedule c.args.texts (answer_in c.in-Ok-Some.played) = rw c.in-Ok-Some.field-0-is at c.in-Ok-Some.ensures in
    run_means words shelf out c.args.link.now file (map string_bytes c.args.files.now) read c.args.texts (answer_in c.in-Ok-Some.played) c.put_played.result run (plays read sole.is) c.put_played.ensures.finishes

pub returns-in-Ok-None-clause-means : goal.returns-in-Ok-None-clause-means
returns-in-Ok-None-clause-means g c = λ words shelf file read run sole.
    let out : SinkSeen = record { written = g.K.Sink.written c.args.out.now; written_after = g.K.Sink.written c.args.out.now; faults = g.K.Sink.faults c.args.out.now; faults_after = g.K.Sink.faults c.args.out.now } in
    let all : All IsHeaded c.as_slice.result.now = rw c.in_default.is at c.in-Ok.ensures in
    let headed : All IsHeaded c.args.texts = subst (λ ts. All IsHeaded ts) c.as_slice.ensures all in
    let outside : All IsPlainText c.args.texts → ⊥ = rw c.in-Ok-None.field-0-is at c.in-Ok-None.ensures in
    outside_means words shelf out c.args.link.now file (map string_bytes c.args.files.now) read c.args.texts c.args.turns.now run sole headed outside (refl, refl)
