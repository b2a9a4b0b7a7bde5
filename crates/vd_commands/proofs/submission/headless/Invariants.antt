use Rattle.std.proofs.Common.{take}
use Rattle.std.specs.List.{All}
use Rattle.vd_commands.specs.Submission.{IsHeaded}
use Rattle.vd_commands.proofs.submission.headless.Given as goal

abbrev pub invariant-loop-at : goal.invariant-loop-at
invariant-loop-at l = All IsHeaded (take l.at l.texts)
