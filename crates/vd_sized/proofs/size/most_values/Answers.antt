use Rattle.std.proofs.Common.{◌∙◌, subst}
use Rattle.std.specs.List.{All}
use Rattle.std.proofs.lemmas.List.{take_all}
use Rattle.vd_sized.specs.Sizes.{HasEnough}
use Rattle.vd_sized.proofs.Firsts.{enough_more}
use Rattle.vd_sized.proofs.size.most_values.Goals as goal

pub returns : goal.returns
returns c = subst (All (λ h. HasEnough c.loop-section.most h.content)) (take_all c.loop-section.section-index c.sections-section-items.result.now c.loop-section-test.false ∙ c.sections-section-items.ensures) c.loop-section.invariant

pub loop-section-preserved : goal.loop-section-preserved
loop-section-preserved c =
    enough_more c.sections-section-items.result.now c.loop-section.section-index c.section-item.result c.values_in.result c.loop-section.most c.max-most.result c.loop-section-test.true c.section-item.is c.values_in.ensures c.max-most.ensures c.loop-section.invariant
