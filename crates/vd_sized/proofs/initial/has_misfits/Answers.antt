use Rattle.std.proofs.Common.{arith}
use Rattle.vd_sized.specs.Cells.{HasCells}
use Rattle.vd_sized.specs.Counts.{CountsSome}
use Rattle.vd_sized.specs.Sizes.{Waits}
use Rattle.vd_sized.proofs.Misfitting.{misfit_by}
use Rattle.vd_sized.proofs.Settling.{match_some}
use Rattle.vd_sized.proofs.initial.has_misfits.Goals as goal

pub returns-else-len-values : goal.returns-else-len-values
returns-else-len-values c =
    misfit_by c.args.view.now.parts.now c.args.view.now.own c.args.global.now c.args.values.now c.args.sizes.now.most c.in-Some.cells
    (match_some (Waits c.args.view.now c.args.sizes.now c.args.global.now.typ) (CountsSome c.args.sizes.now.most (HasCells c.args.view.now.parts.now c.args.view.now.own c.args.global.now.typ)) c.in_ok-cells.field-0 c.in-Some.cells c.in-Some.is c.in_ok-cells.ensures)
    c.requires.few c.requires.one c.are_unfit.result (omega arith) c.are_unfit.ensures
