use Rattle.vd_outline.specs.declared.section.SectionKind.TheVariants as section
use Rattle.vd_form.specs.Sections.{IsScript}
use Rattle.vd_check.specs.Form.{main}
use Rattle.vd_check.proofs.Forms.{under_read}
use Rattle.vd_check.proofs.form.script_of.Goals as goal

pub returns-in-Some : goal.returns-in-Some
returns-in-Some c = under_read section.Script main c.args.sections.now IsScript c.in-Some.text.now c.in-Some.ensures c.read_script.result c.read_script.ensures
