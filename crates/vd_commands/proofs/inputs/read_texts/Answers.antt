use Rattle.std.proofs.Common.{◌∙◌, ◌++◌, ◌∷◌, ap, map, string_bytes, add-one, arith, subst, sym, suc, take, drop}
use Rattle.vd_base.specs.Shelf.{Agrees}
use Rattle.vd_commands.specs.Command.{Play}
use Rattle.vd_commands.specs.Reading.{IsRead}
use Rattle.vd_commands.specs.Seen.{ShelfSeen}
use Rattle.vd_commands.specs.Steps.{ReadStops}
use Rattle.vd_commands.proofs.Gathering.{gathered_within}
use Rattle.vd_commands.proofs.ReadLaws.{file_stops, over_stops, read_more}
use Rattle.vd_commands.proofs.Words.{parted, taken}
use Rattle.vd_commands.proofs.inputs.read_texts.Goals as goal

pub returns-in-Err-add-clause-stops : goal.returns-in-Err-add-clause-stops
returns-in-Err-add-clause-stops g c = λ link schedule turns first few.
    let shelf : ShelfSeen = record { held = g.H.Shelf.held c.args.shelf.now; taken = g.H.Shelf.taken c.args.shelf.now; taken_after = g.H.Shelf.taken c.read_file.new.shelf; faults = g.H.Shelf.faults c.args.shelf.now; faults_after = g.H.Shelf.faults c.read_file.new.shelf } in
    let before = take c.loop-file.file-index (map string_bytes c.args.files.now) in
    let after = drop (suc c.loop-file.file-index) (map string_bytes c.args.files.now) in
    let one : IsRead (g.H.Shelf.held c.args.shelf.now) (string_bytes c.file-item.result) c.in-Ok.text =
    (subst (λ h. Agrees h c.in-Ok.text) (c.loop-file.invariant.held (string_bytes c.file-item.result)) c.in-Ok.ensures.read.0, c.in-Ok.ensures.read.1) in
    subst (λ fs. ReadStops (Play link schedule fs) shelf c.in-Err-add.fault) (sym (parted string_bytes c.args.files.now c.loop-file.file-index c.file-item.result c.loop-file-test.true c.file-item.is))
    (over_stops link schedule turns before after c.loop-file.gathered.texts (string_bytes c.file-item.result) c.in-Ok.text shelf c.in-Err-add.fault c.loop-file.invariant.read first
    (gathered_within link schedule turns (before ++ string_bytes c.file-item.result ∷ after) c.loop-file.gathered c.loop-file.invariant.gathered few) one c.in-Err-add.ensures.stops)

pub returns-in-Err-clause-stops : goal.returns-in-Err-clause-stops
returns-in-Err-clause-stops g c = λ link schedule turns first few.
    file_stops (Play link schedule (map string_bytes c.args.files.now)) (g.H.Shelf.held c.args.shelf.now) (g.H.Shelf.held c.loop-file.shelf)
    (schedule ∷ take c.loop-file.file-index (map string_bytes c.args.files.now)) (drop (suc c.loop-file.file-index) (map string_bytes c.args.files.now)) (turns ∷ c.loop-file.gathered.texts) (string_bytes c.file-item.result)
    (g.H.Shelf.taken c.args.shelf.now) (g.H.Shelf.taken c.loop-file.shelf) (g.H.Shelf.taken c.read_file.new.shelf) (g.H.Shelf.faults c.args.shelf.now) (g.H.Shelf.faults c.loop-file.shelf) (g.H.Shelf.faults c.read_file.new.shelf) c.in-Err.fault
    (ap (λ fs. schedule ∷ fs) (parted string_bytes c.args.files.now c.loop-file.file-index c.file-item.result c.loop-file-test.true c.file-item.is)) (first.0, first.1, c.loop-file.invariant.read)
    (gathered_within link schedule turns (map string_bytes c.args.files.now) c.loop-file.gathered c.loop-file.invariant.gathered few)
    c.loop-file.invariant.held c.loop-file.invariant.taken c.loop-file.invariant.faults c.in-Err.ensures.stops

pub loop-file-preserved : goal.loop-file-preserved
loop-file-preserved g c =
    let one = c.in-Ok.ensures.read in
    record {
      read = rw (add-one, taken string_bytes c.args.files.now c.loop-file.file-index c.file-item.result c.loop-file-test.true c.file-item.is, c.in-Ok-add.ensures.texts)
          (read_more (g.H.Shelf.held c.args.shelf.now) (take c.loop-file.file-index (map string_bytes c.args.files.now)) c.loop-file.gathered.texts (string_bytes c.file-item.result) c.in-Ok.text c.loop-file.invariant.read
          (subst (λ h. Agrees h c.in-Ok.text) (c.loop-file.invariant.held (string_bytes c.file-item.result)) one.0) one.1);
      gathered = c.in-Ok-add.ensures.gathered;
      held = λ name. c.in-Ok.ensures.held name ∙ c.loop-file.invariant.held name;
      taken = omega (arith, c.in-Ok.ensures.taken, c.loop-file.invariant.taken);
      faults = omega (arith, c.in-Ok.ensures.faults, c.loop-file.invariant.faults);
    }
