use Rattle.std.proofs.Common.{◌≡◌, ◌<◌, sym, ◌∙◌, ap, subst, length, arith}
use Rattle.vd_mem.specs.Kept.{kept_cell}
use Rattle.vd_mem.specs.Memory.{block_put}
use Rattle.vd_mem.proofs.Blocks.{block_of-put, within_after}
use Rattle.vd_mem.proofs.Lists.{length-tabulate}
use Rattle.vd_mem.proofs.block.Kept.set.Goals as goal

pub invariant_of-self-2 : goal.invariant_of-self-2
invariant_of-self-2 c =
    let i = c.self.inside in
    within_after i.size i.written c.write.new.written c.args.offset c.args.cell
    (subst (λ n. c.args.offset < n) (length-tabulate i.size (kept_cell i.fill i.written)) (subst (λ x. c.args.offset < length x.cells) (sym c.self.view_is) c.requires))
    c.in_ok-write.ensures.ok c.self.invariant

pub returns-clause-ok : goal.returns-clause-ok
returns-clause-ok c =
    let i = c.self.inside in
    block_of-put i.size i.fill i.live i.heap i.written c.write.new.written c.args.offset c.args.cell c.in_ok-write.ensures.ok
    ∙ ap (λ x. block_put x c.args.offset c.args.cell) c.self.view_is
