use Rattle.std.proofs.Common.{◌≡◌, ◌++◌, flat_map, take}
use Rattle.vd_check.specs.Report.{spaced}
use Rattle.vd_check.proofs.report.put_words.Given as goal

abbrev pub invariant-loop-word : goal.invariant-loop-word
invariant-loop-word l = l.line ≡ l.initial.line ++ flat_map spaced (take l.word-index l.words)
