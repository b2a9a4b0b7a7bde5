use Rattle.std.proofs.Common.{take}
use Rattle.std.specs.List.{All}
use Rattle.vd_linkage.specs.Form.{IsPlainText}
use Rattle.vd_commands.proofs.play.are_plain.Given as goal

abbrev pub invariant-loop-text : goal.invariant-loop-text
invariant-loop-text l = All IsPlainText (take l.text-index l.texts)
