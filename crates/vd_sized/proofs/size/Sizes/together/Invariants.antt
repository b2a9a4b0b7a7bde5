use Rattle.std.proofs.Common.{take}
use Rattle.vd_sized.specs.Cells.{HaveCells}
use Rattle.vd_sized.specs.Counts.{CountsSome}
use Rattle.vd_sized.proofs.size.Sizes.together.Given as goal

abbrev pub invariant-loop-field : goal.invariant-loop-field
invariant-loop-field l = CountsSome l.self.most (HaveCells l.view.parts.now l.view.own (take l.field-index l.fields)) l.total
