use Rattle.std.proofs.Common.{refl}
use Rattle.vd_machine.specs.Watching.{touch_in}
use Rattle.vd_machine.proofs.Watched.{block_apart}
use Rattle.vd_machine.proofs.watch.Watch.meets_block.Goals as goal

pub returns-else-is_block_met-2 : goal.returns-else-is_block_met-2
returns-else-is_block_met-2 c = λ far k b o h g.
    block_apart c.args.self.now (touch_in c.args.self.now.touches.items k) k b o c.requires refl (c.is_block_met.ensures c.if-is_block_met.false b 0 k h)
    (c.is_block_met-2.ensures c.if-is_block_met-2.false b o k h) (c.is_block_met-else-is_block_met-2.ensures far b o k h) g
