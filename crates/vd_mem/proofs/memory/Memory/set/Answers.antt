use Rattle.std.proofs.Common.{◌∙◌, ap, sym, subst}
use Rattle.std.specs.Prelude.{IsSome}
use Rattle.vd_mem.specs.Memory.{block_put, put, cell_at}
use Rattle.vd_mem.proofs.Memories.{written_back, within_memory}
use Rattle.vd_mem.proofs.memory.Memory.set.Goals as goal

pub returns-clause-ok : goal.returns-clause-ok
returns-clause-ok c =
    let m = c.self.inside.blocks.items in
    written_back m c.args.block (λ x. block_put x c.args.offset c.args.cell) c.index_mut-kept.result.now c.set.new.self
    (within_memory m c.args.block c.args.offset (subst (λ x. IsSome (cell_at x c.args.block c.args.offset)) (sym c.self.view_is) c.requires))
    c.index_mut-kept.ensures.value c.in_ok-set.ensures.ok
    ∙ ap (λ x. put x c.args.block c.args.offset c.args.cell) c.self.view_is
