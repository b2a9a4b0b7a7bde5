use Rattle.std.proofs.Common.{◌≡◌, ◌∙◌, ◌++◌, ◌∷◌, [], map, string_bytes, add-one, arith, subst, sym, suc, take, drop}
use Rattle.vd_base.specs.Shelf.{Agrees}
use Rattle.vd_commands.specs.Command.{Check}
use Rattle.vd_commands.proofs.ReadLaws.{file_stops, read_more, on_ok}
use Rattle.vd_commands.proofs.Words.{parted, taken}
use Rattle.vd_commands.proofs.files.read_files.Goals as goal

pub returns-in-Err-clause-stops : goal.returns-in-Err-clause-stops
returns-in-Err-clause-stops g c = λ link. file_stops (Check link (map string_bytes c.args.files.now)) (g.H.Shelf.held c.args.shelf.now) (g.H.Shelf.held c.loop-file.shelf)
    (take c.loop-file.file-index (map string_bytes c.args.files.now)) (drop (suc c.loop-file.file-index) (map string_bytes c.args.files.now)) c.loop-file.texts (string_bytes c.file-item.result)
    (g.H.Shelf.taken c.args.shelf.now) (g.H.Shelf.taken c.loop-file.shelf) (g.H.Shelf.taken c.read_file.new.shelf) (g.H.Shelf.faults c.args.shelf.now) (g.H.Shelf.faults c.loop-file.shelf) (g.H.Shelf.faults c.read_file.new.shelf) c.in-Err.fault
    (parted string_bytes c.args.files.now c.loop-file.file-index c.file-item.result c.loop-file-test.true c.file-item.is) c.loop-file.invariant.read tt c.loop-file.invariant.held c.loop-file.invariant.taken c.loop-file.invariant.faults c.in-Err.ensures.stops

pub loop-file-preserved : goal.loop-file-preserved
loop-file-preserved g c =
    let one = c.in-Ok.ensures.read in
    let pushed : c.push.new.self ≡ c.loop-file.texts ++ c.in-Ok.text ∷ [] = on_ok c.push.result _ (sym c.is_err.ensures.value ∙ c.if-is_err.false) c.push.ensures.ok in
    record {
      read = rw (add-one, taken string_bytes c.args.files.now c.loop-file.file-index c.file-item.result c.loop-file-test.true c.file-item.is, pushed)
          (read_more (g.H.Shelf.held c.args.shelf.now) (take c.loop-file.file-index (map string_bytes c.args.files.now)) c.loop-file.texts (string_bytes c.file-item.result) c.in-Ok.text c.loop-file.invariant.read
          (subst (λ h. Agrees h c.in-Ok.text) (c.loop-file.invariant.held (string_bytes c.file-item.result)) one.0) one.1);
      held = λ name. c.in-Ok.ensures.held name ∙ c.loop-file.invariant.held name;
      taken = omega (arith, c.in-Ok.ensures.taken, c.loop-file.invariant.taken);
      faults = omega (arith, c.in-Ok.ensures.faults, c.loop-file.invariant.faults);
    }
