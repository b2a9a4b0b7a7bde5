use Rattle.vd_sized.proofs.Seeing.{added_none, added_more}
use Rattle.vd_sized.proofs.order.add_structs.Goals as goal

pub loop-section-init : goal.loop-section-init
loop-section-init c = added_none c.args.view.now c.args.seen.now c.requires.seen

pub add_struct-requires-clause-seen : goal.add_struct-requires-clause-seen
add_struct-requires-clause-seen c = c.loop-section.invariant.meant

pub loop-section-preserved : goal.loop-section-preserved
loop-section-preserved c =
    added_more c.args.view.now c.args.sections.now c.loop-section.section-index c.section-item.result c.args.seen.now c.loop-section.seen c.add_struct.new.seen c.loop-section-test.true c.section-item.is c.loop-section.invariant c.in_ok-add_struct.ensures
