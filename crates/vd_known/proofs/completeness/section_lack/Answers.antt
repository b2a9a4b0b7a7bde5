use Rattle.vd_known.proofs.LackLaws.{exports_lack, specified_lack}
use Rattle.vd_known.proofs.completeness.section_lack.Goals as goal

pub returns-in-Exports : goal.returns-in-Exports
returns-in-Exports c = λ lines bodies.
    let v = c.args.view.now in
    exports_lack lines v.parts.now v.own c.args.section.now.content c.in-Exports.mentions c.as_slice.result.now c.args.section.now.place c.first_missing.result c.in-Exports.is c.as_slice.ensures (c.first_missing.ensures lines bodies)

pub returns-in-Spec : goal.returns-in-Spec
returns-in-Spec c = λ lines bodies.
    let v = c.args.view.now in
    specified_lack lines v.parts.now v.own c.args.section.now.content c.in-Spec.spec c.in-Spec.field-1 c.args.section.now.place c.spec_lack.result c.in-Spec.is (c.spec_lack.ensures lines bodies)
