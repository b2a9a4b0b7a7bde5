use Rattle.std.proofs.Common.{◌≡◌, List, codes, Some, ap, subst, sym, ◌∙◌}
use Rattle.std.proofs.lemmas.Result.{IfOk-weaker}
use Rattle.std.specs.Option.{option_copied}
use Rattle.vd_cparse.specs.Section.{IsFnSection}
use Rattle.vd_outline.specs.declared.section.Section.{Section}
use Rattle.vd_outline.specs.declared.section.SectionKind.TheVariants as section
use Rattle.vd_outline.specs.Lookup.{section_called}
use Rattle.vd_linkage.specs.Conditions.{IsMainIn}
use Rattle.vd_linkage.specs.Only.{IsOnly}
use Rattle.vd_declared.proofs.Mains.{main_of_section}
use Rattle.vd_declared.proofs.main_of.main_in.Goals as goal

pub returns-in-Some : goal.returns-in-Some
returns-in-Some c =
    let one = c.in-Some.section.now in
    let here = subst (λ (ss : List Section). section_called section.Fn (Some (codes "main")) ss ≡ Some one) c.as_slice.ensures (sym c.find.ensures.first ∙ ap option_copied c.in-Some.is) in
    IfOk-weaker c.function_in.result (IsOnly (IsFnSection one.text)) (IsOnly (IsMainIn c.args.unit.now)) (main_of_section c.args.unit.now one here) c.function_in.ensures
