use Rattle.std.proofs.Common.{◌≡◌, true, take}
use Rattle.vd_outline.specs.Lines.{lacks}
use Rattle.vd_outline.proofs.line.cut_at.Given as goal

abbrev pub invariant-loop-at : goal.invariant-loop-at
invariant-loop-at l = lacks l.separator (take l.at l.bytes) ≡ true
