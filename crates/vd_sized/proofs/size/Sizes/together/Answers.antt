use Rattle.std.proofs.Common.{take}
use Rattle.vd_sized.specs.Cells.{HasCells, HaveCells}
use Rattle.vd_sized.specs.Counts.{CountsSome}
use Rattle.vd_sized.specs.Sizes.{Waits}
use Rattle.vd_sized.proofs.Counting.{few_some}
use Rattle.vd_sized.proofs.Settling.{match_some, match_none, no_fields, field_more, some_waits}
use Rattle.vd_sized.proofs.size.Sizes.together.Goals as goal

pub loop-field-init : goal.loop-field-init
loop-field-init c = no_fields c.args.view.now c.args.self.now _ (c.none-total.ensures c.args.self.now.most)

pub add-requires-clause-first : goal.add-requires-clause-first
add-requires-clause-first c = (few_some c.args.self.now.most (HaveCells c.args.view.now.parts.now c.args.view.now.own (take c.loop-field.field-index c.args.fields.now)) c.loop-field.total c.loop-field.invariant).1

pub returns-in-None : goal.returns-in-None
returns-in-None c =
    some_waits c.args.view.now c.args.self.now c.args.fields.now c.loop-field.field-index c.field-item.result c.loop-field-test.true c.field-item.is
    (match_none (Waits c.args.view.now c.args.self.now c.field-item.result.typ) (CountsSome c.args.self.now.most (HasCells c.args.view.now.parts.now c.args.view.now.own c.field-item.result.typ)) c.in_ok-cells.field-0 c.in-None.is c.in_ok-cells.ensures)

pub loop-field-preserved : goal.loop-field-preserved
loop-field-preserved c =
    field_more c.args.view.now c.args.self.now c.args.fields.now c.loop-field.field-index c.field-item.result c.loop-field.total c.in-Some.cells c.add.new.self c.loop-field-test.true c.field-item.is c.loop-field.invariant
    (match_some (Waits c.args.view.now c.args.self.now c.field-item.result.typ) (CountsSome c.args.self.now.most (HasCells c.args.view.now.parts.now c.args.view.now.own c.field-item.result.typ)) c.in_ok-cells.field-0 c.in-Some.cells c.in-Some.is c.in_ok-cells.ensures)
    c.in_ok-add-in-Some.ensures
