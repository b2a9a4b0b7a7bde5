use Rattle.std.proofs.Common.{Some, refl, ap, sym, ◌∙◌}
use Rattle.vd_code.proofs.SectionCode.{is_global}
use Rattle.vd_code.proofs.code.defined.Goals as goal

pub returns-in-Some : goal.returns-in-Some
returns-in-Some c =
    is_global c.args.scope.now c.args.section.now c.in-Some-Global.field c.in-Some-Global.init _ (rw (c.in-Some-Global.is ∙ ap (λ d. Some d) c.in-Some-Global.field-0-is) at c.in_ok-field.ensures) (sym c.size.ensures ∙ c.in-Some.is) refl refl
