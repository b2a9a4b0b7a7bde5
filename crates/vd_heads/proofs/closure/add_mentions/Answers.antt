use Rattle.std.proofs.Common.{arith}
use Rattle.vd_heads.proofs.Closing.{mentioned_none, mentioned_more}
use Rattle.vd_heads.proofs.closure.add_mentions.Goals as goal

pub loop-mention-init : goal.loop-mention-init
loop-mention-init c = mentioned_none c.args.table.now c.args.mentions.now _ c.requires

pub loop-mention-preserved : goal.loop-mention-preserved
loop-mention-preserved c =
    mentioned_more c.args.table.now c.args.mentions.now c.loop-mention.mention-index c.mention-item.result c.args.set.now c.loop-mention.set c.add_interface.new.set (omega arith) c.mention-item.is c.loop-mention.invariant
    c.in_ok-add_interface.ensures
