use Rattle.std.proofs.Common.{subst}
use Rattle.vd_sized.specs.Cells.{HasCells}
use Rattle.vd_sized.specs.Counts.{CountsSome}
use Rattle.vd_sized.specs.Sizes.{Waits}
use Rattle.vd_sized.proofs.Completing.{waits_array}
use Rattle.vd_sized.proofs.Settling.{match_some, match_none, of_array}
use Rattle.vd_sized.proofs.size.Sizes.+cells.Goals as goal

pub returns-in_ok-times-in-Some : goal.returns-in_ok-times-in-Some
returns-in_ok-times-in-Some t c =
    of_array c.args.view.now c.args.self.now c.args.t.now c.in-Array.of c.get.result.now c.in-Array.length c.in-Some.element c.in_ok-times-in-Some.field-0 c.in-Array.is c.get.ensures
    (match_some (Waits c.args.view.now c.args.self.now c.get.result.now) (CountsSome c.args.self.now.most (HasCells c.args.view.now.parts.now c.args.view.now.own c.get.result.now)) c.in_ok-element-in-Array.field-0 c.in-Some.element c.in-Some.is c.in_ok-element-in-Array.ensures)
    c.in_ok-times-in-Some.ensures

pub returns-in-None : goal.returns-in-None
returns-in-None t c =
    waits_array c.args.view.now c.args.self.now c.args.t.now c.in-Array.of c.in-Array.length c.in-Array.is
    (subst (Waits c.args.view.now c.args.self.now) c.get.ensures
    (match_none (Waits c.args.view.now c.args.self.now c.get.result.now) (CountsSome c.args.self.now.most (HasCells c.args.view.now.parts.now c.args.view.now.own c.get.result.now)) c.in_ok-element-in-Array.field-0 c.in-None.is c.in_ok-element-in-Array.ensures))
