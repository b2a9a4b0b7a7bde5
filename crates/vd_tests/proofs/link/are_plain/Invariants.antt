use Rattle.std.proofs.Common.{take}
use Rattle.vd_linkage.specs.Form.{ArePlain}
use Rattle.vd_tests.proofs.link.are_plain.Given as goal

abbrev pub invariant-loop-text : goal.invariant-loop-text
invariant-loop-text l = ArePlain (take l.text-index l.snapshot.texts)
