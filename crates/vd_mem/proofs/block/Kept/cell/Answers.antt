use Rattle.std.proofs.Common.{◌≡◌, false, true, sym, ◌∙◌, ap, subst, Some, arith}
use Rattle.std.proofs.lemmas.Bool.{not-false}
use Rattle.vd_mem.specs.Memory.{block_cell}
use Rattle.vd_mem.proofs.Blocks.{block_of-cell, block_of-cell_past}
use Rattle.vd_mem.proofs.block.Kept.cell.Goals as goal

pub returns-then-offset-self : goal.returns-then-offset-self
returns-then-offset-self c =
    let i = c.self.inside in
    sym (block_of-cell_past i.size i.fill i.live i.heap i.written c.args.offset c.if-offset-self.true) ∙ ap (λ x. block_cell x c.args.offset) c.self.view_is

pub returns : goal.returns
returns c =
    let i = c.self.inside in
    ap (λ x. Some x) c.read.ensures
    ∙ sym (block_of-cell i.size i.fill i.live i.heap i.written c.args.offset c.if-not-self.false c.if-offset-self.false)
    ∙ ap (λ x. block_cell x c.args.offset) c.self.view_is
