use Rattle.std.proofs.Common.{◌<◌, length, ◌∙◌, ap, sym, subst, arith}
use Rattle.vd_mem.specs.Memory.{block_freed, freed}
use Rattle.vd_mem.proofs.Memories.{written_back}
use Rattle.vd_mem.proofs.memory.Memory.free.Goals as goal

pub returns-clause-freed : goal.returns-clause-freed
returns-clause-freed c = λ yes.
    let m = c.self.inside.blocks.items in
    let l : c.args.block < length m = omega arith in
    written_back m c.args.block block_freed c.index_mut-kept.result.now c.free.new.self l c.index_mut-kept.ensures.value (c.free.ensures.freed yes)
    ∙ ap (λ x. freed x c.args.block) c.self.view_is
