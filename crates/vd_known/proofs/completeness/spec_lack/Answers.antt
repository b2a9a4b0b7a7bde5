use Rattle.std.proofs.Common.{rules}
use Rattle.std.proofs.lemmas.Bool.{iff_false}
use Rattle.vd_known.proofs.LackLaws.{served_lack, unserved_lack}
use Rattle.vd_known.proofs.completeness.spec_lack.Goals as goal

pub returns-then-is_served : goal.returns-then-is_served
returns-then-is_served c = λ lines bodies. served_lack lines c.args.view.now.parts.now c.args.view.now.own _ c.args.spec.now.name c.args.place ((c.is_served.ensures lines bodies).0 (search rules)) (search rules)

pub returns-else-is_served : goal.returns-else-is_served
returns-else-is_served c = λ lines bodies. unserved_lack lines c.args.view.now.parts.now c.args.view.now.own _ c.args.spec.now.name c.args.place (iff_false (c.is_served.ensures lines bodies) (search rules)) (search rules)
