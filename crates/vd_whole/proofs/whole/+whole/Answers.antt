use Rattle.std.proofs.Common.{sym, ◌∙◌}
use Rattle.vd_whole.proofs.Parts.{part_fails, place_passes}
use Rattle.vd_whole.proofs.whole.+whole.Goals as goal

pub is_whole_place-returns-then-not-is_whole_part : goal.is_whole_place-returns-then-not-is_whole_part
is_whole_place-returns-then-not-is_whole_part t c =
    part_fails c.args.names.now.program.now c.args.temps c.args.l.now c.as_slice-part-items.result.now c.as_slice-part-items.ensures c.loop-part.part-index c.part-item.result c.loop-part-test.true c.part-item.is
    (sym c.is_whole_part.ensures ∙ c.if-not-is_whole_part.true)

pub is_whole_place-returns : goal.is_whole_place-returns
is_whole_place-returns t c =
    place_passes c.args.names.now.program.now c.args.temps c.args.l.now c.as_slice-part-items.result.now c.as_slice-part-items.ensures c.loop-part.part-index
    (sym c.is_whole_root.ensures ∙ c.if-not-is_whole_root.false) c.loop-part-test.false c.loop-part.invariant
