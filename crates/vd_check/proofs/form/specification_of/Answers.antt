use Rattle.vd_outline.specs.declared.section.SectionKind.TheVariants as section
use Rattle.vd_form.specs.Sections.{IsSpecification}
use Rattle.vd_check.specs.Form.{main}
use Rattle.vd_check.proofs.Forms.{under_read}
use Rattle.vd_check.proofs.form.specification_of.Goals as goal

pub returns-in-Some : goal.returns-in-Some
returns-in-Some c = under_read section.Spec main c.args.sections.now IsSpecification c.in-Some.text.now c.in-Some.ensures c.read_specification.result c.read_specification.ensures
