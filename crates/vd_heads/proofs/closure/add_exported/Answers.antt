use Rattle.std.proofs.Common.{arith}
use Rattle.vd_heads.specs.Closure.{exported}
use Rattle.vd_heads.proofs.Closing.{below_none, below_more}
use Rattle.vd_heads.proofs.closure.add_exported.Goals as goal

pub loop-section-init : goal.loop-section-init
loop-section-init c = below_none c.args.table.now exported c.args.sections.now _ c.requires

pub loop-section-preserved : goal.loop-section-preserved
loop-section-preserved c =
    below_more c.args.table.now exported c.args.sections.now c.loop-section.section-index c.section-item.result c.exported.result.now c.args.set.now c.loop-section.set c.add_mentions.new.set (omega arith) c.section-item.is
    c.exported.ensures c.loop-section.invariant c.in_ok-add_mentions.ensures
