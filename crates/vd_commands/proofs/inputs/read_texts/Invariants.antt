use Rattle.std.proofs.Common.{◌≡◌, ◌≤◌, ℕ, List, map, take, string_bytes}
use Rattle.vd_commands.specs.Gathering.{IsGathered}
use Rattle.vd_commands.specs.Reading.{AreRead}
use Rattle.vd_commands.proofs.inputs.read_texts.Given as goal

-- what was read so far, and what stays
abbrev pub invariant-loop-file : goal.invariant-loop-file
invariant-loop-file g l = record {
  read : AreRead (g.H.Shelf.held l.fn.shelf) (take l.file-index (map string_bytes l.files)) l.gathered.texts;
  gathered : IsGathered l.gathered;
  held : (name : List ℕ) → g.H.Shelf.held l.shelf name ≡ g.H.Shelf.held l.fn.shelf name;
  taken : g.H.Shelf.taken l.fn.shelf ≤ g.H.Shelf.taken l.shelf;
  faults : g.H.Shelf.faults l.fn.shelf ≤ g.H.Shelf.faults l.shelf;
}
