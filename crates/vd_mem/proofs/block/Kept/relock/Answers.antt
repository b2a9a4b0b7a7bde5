use Rattle.std.proofs.Common.{◌≡◌, sym, ◌∙◌, ap, subst}
use Rattle.vd_mem.specs.Locks.{IsLock}
use Rattle.vd_mem.specs.Memory.{block_cell, block_put}
use Rattle.vd_mem.proofs.Blocks.{block_of-put, lock_was_written, lock_is_within, within_after}
use Rattle.vd_mem.proofs.block.Kept.relock.Goals as goal

pub rewrite-requires : goal.rewrite-requires
rewrite-requires c =
    let i = c.self.inside in
    lock_was_written i.size i.fill i.live i.heap i.written c.args.offset (subst (λ x. IsLock (block_cell x c.args.offset)) (sym c.self.view_is) c.requires)

pub invariant_of-self : goal.invariant_of-self
invariant_of-self c =
    let i = c.self.inside in
    within_after i.size i.written c.rewrite.new.written c.args.offset c.args.cell
    (lock_is_within i.size i.fill i.live i.heap i.written c.args.offset (subst (λ x. IsLock (block_cell x c.args.offset)) (sym c.self.view_is) c.requires))
    c.rewrite.ensures c.self.invariant

pub returns : goal.returns
returns c =
    let i = c.self.inside in
    block_of-put i.size i.fill i.live i.heap i.written c.rewrite.new.written c.args.offset c.args.cell c.rewrite.ensures
    ∙ ap (λ x. block_put x c.args.offset c.args.cell) c.self.view_is
