-- The header lines met so far.
use Rattle.std.specs.Prelude.{Bool}
use Rattle.std.specs.BTreeSet.{contains_by}
use Rattle.std.specs.Cmp.Lexicographic.{slice_cmp}
use Rattle.std.specs.Ordering.{nat_cmp}
use Rattle.vd_outline.specs.declared.seen.Seen.{Seen}
use Rattle.vd_outline.specs.Outline.{Bytes}

-- whether the line is among them
abbrev pub has : Seen → Bytes → Bool
has seen line = contains_by (λ k. slice_cmp nat_cmp line k.now) seen.lines
