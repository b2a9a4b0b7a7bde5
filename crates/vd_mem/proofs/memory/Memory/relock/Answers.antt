use Rattle.std.proofs.Common.{◌∙◌, ap, sym, subst}
use Rattle.vd_mem.specs.Locks.{IsLockAt}
use Rattle.vd_mem.specs.Memory.{block_put, put}
use Rattle.vd_mem.proofs.Memories.{written_back, lock_within}
use Rattle.vd_mem.proofs.memory.Memory.relock.Goals as goal

pub returns : goal.returns
returns c =
    let m = c.self.inside.blocks.items in
    written_back m c.args.block (λ x. block_put x c.args.offset c.args.cell) c.index_mut-kept.result.now c.relock.new.self
    (lock_within m c.args.block c.args.offset (subst (λ x. IsLockAt x c.args.block c.args.offset) (sym c.self.view_is) c.requires))
    c.index_mut-kept.ensures.value c.relock.ensures
    ∙ ap (λ x. put x c.args.block c.args.offset c.args.cell) c.self.view_is
