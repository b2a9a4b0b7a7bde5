use Rattle.vd_outline.specs.declared.section.SectionKind.TheVariants as section
use Rattle.vd_form.specs.Sections.{IsTyped}
use Rattle.vd_check.specs.Form.{main}
use Rattle.vd_check.proofs.Forms.{under_read}
use Rattle.vd_check.proofs.form.typed_of.Goals as goal

pub returns-in-Some : goal.returns-in-Some
returns-in-Some c = under_read section.Fn main c.args.sections.now IsTyped c.in-Some.text.now c.in-Some.ensures c.read_typed.result c.read_typed.ensures
