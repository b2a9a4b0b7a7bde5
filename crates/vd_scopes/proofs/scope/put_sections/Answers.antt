use Rattle.std.proofs.Common.{arith}
use Rattle.vd_scopes.proofs.Adding.{adds_nothing, adds_more}
use Rattle.vd_scopes.proofs.scope.put_sections.Goals as goal

pub loop-section-init : goal.loop-section-init
loop-section-init c = adds_nothing c.args.scopes.now

pub loop-section-preserved : goal.loop-section-preserved
loop-section-preserved c =
    adds_more c.args.sections.now c.loop-section.section-index c.section-item.result c.args.scopes.now c.loop-section.scopes c.put_section.new.scopes (omega arith) c.section-item.is c.loop-section.invariant
    c.in_ok-put_section.ensures
