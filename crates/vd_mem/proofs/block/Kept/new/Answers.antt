use Rattle.vd_mem.proofs.Blocks.{block_of-empty}
use Rattle.vd_mem.proofs.block.Kept.new.Goals as goal

pub returns : goal.returns
returns c = block_of-empty c.args.size c.args.fill c.args.heap c.new.result c.new.ensures.empty
