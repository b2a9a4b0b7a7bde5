use Rattle.std.proofs.Common.{take}
use Rattle.vd_scopes.specs.Head.{AreParts}
use Rattle.vd_scopes.proofs.verdict.parts_of.Given as goal

abbrev pub invariant-loop-text : goal.invariant-loop-text
invariant-loop-text l = AreParts (take l.text-index l.texts) l.parts
