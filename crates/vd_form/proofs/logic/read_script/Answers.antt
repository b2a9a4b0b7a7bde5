use Rattle.vd_form.specs.Sections.{steps_in}
use Rattle.vd_form.proofs.Finding.{said, unsaid, bad_is_certain, deep_is_certain}
use Rattle.vd_form.proofs.logic.read_script.Goals as goal

pub returns-in-Ok : goal.returns-in-Ok
returns-in-Ok c = said c.args.section.now steps_in c.in-Ok.said c.steps_in.result c.steps_in.ensures c.in-Ok.ensures.answers c.in-Ok.ensures.exact

pub returns-in-Err-Bad : goal.returns-in-Err-Bad
returns-in-Err-Bad c = unsaid c.args.section.now steps_in _ (bad_is_certain _ c.in-Err-Bad.field-0-0 c.in-Err-Bad.field-0-is) c.in-Err-Bad.ensures.exact

pub returns-in-Err-Deep : goal.returns-in-Err-Deep
returns-in-Err-Deep c = unsaid c.args.section.now steps_in _ (deep_is_certain _ c.in-Err-Deep.field-0-0 c.in-Err-Deep.field-0-is) c.in-Err-Deep.ensures.exact
