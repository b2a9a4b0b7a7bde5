use Rattle.std.proofs.Common.{◌++◌, ◌∙◌, subst, rules}
use Rattle.std.proofs.lemmas.List.{take_all}
use Rattle.vd_heads.specs.Views.{AreDeclarations, in_space, spots_in_part}
use Rattle.vd_heads.proofs.TableLaws.{sections_next}
use Rattle.vd_heads.proofs.table.Table.add_sections.Goals as goal

pub loop-at-preserved : goal.loop-at-preserved
loop-at-preserved c = (
  λ places h. sections_next places c.args.number c.loop-at.at c.args.sections.now c.index-sections-at.result _ c.loop-at-test.true (search rules) (c.in_ok-add_section.ensures.declarations _ (c.loop-at.invariant.0 places h)),
  c.in_ok-add_section.ensures.interfaces ∙ c.loop-at.invariant.1,
)

pub returns-clause-declarations : goal.returns-clause-declarations
returns-clause-declarations c = λ places h s. subst (λ x. AreDeclarations (λ name. places s name ++ spots_in_part s name c.args.number 0 x) (in_space s c.loop-at.self)) (take_all c.loop-at.at c.args.sections.now c.loop-at-test.false) (c.loop-at.invariant.0 places h s)
