use Rattle.std.proofs.Common.{[], sym, subst}
use Rattle.vd_scopes.specs.Head.{AreParts, no_part}
use Rattle.vd_scopes.proofs.Texts.{one_part_more}
use Rattle.vd_scopes.proofs.verdict.parts_of.Goals as goal

pub loop-text-init : goal.loop-text-init
loop-text-init c = subst (AreParts []) (sym c.new-parts.ensures) no_part

pub loop-text-preserved : goal.loop-text-preserved
loop-text-preserved c =
    one_part_more c.args.texts.now c.loop-text.text-index c.text-item.result c.loop-text.parts c.push.new.self c.in_ok-part_of.field-0 c.loop-text-test.true c.text-item.is c.in_ok-part_of.ensures c.in_ok-push.ensures.ok c.loop-text.invariant
