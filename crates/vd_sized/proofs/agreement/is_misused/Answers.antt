use Rattle.std.proofs.Common.{ap, ◌∙◌}
use Rattle.vd_sized.specs.Agreement.{takes}
use Rattle.vd_sized.proofs.Disagreeing.{misused_by, misused_nowhere}
use Rattle.vd_sized.proofs.agreement.is_misused.Goals as goal

pub returns-in-Some : goal.returns-in-Some
returns-in-Some c =
    misused_by c.args.view.now.parts.now c.args.view.now.own c.args.label.now c.requires.one c.in-Some.content.now c.takes.result c.in-Some.ensures (c.takes.ensures ∙ ap (λ o. takes o c.args.label.now.args) c.arguments.ensures)

pub returns-in-None : goal.returns-in-None
returns-in-None c = misused_nowhere c.args.view.now.parts.now c.args.view.now.own c.args.label.now c.in-None.ensures
