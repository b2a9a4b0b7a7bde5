use Rattle.std.proofs.Common.{rules, FitsSigned, pos, map, sym, ◌∙◌, ap, Ok, Err, ◌+ℤ◌}
use Rattle.std.proofs.lemmas.Int.{to_z-of_z}
use mir.Syntax.{w64, w128}
use mir.Val.{to_z, of_z}
use Rattle.vd_machine.specs.Evaluation.{moved, placed}
use Rattle.vd_machine.specs.Results.{part_moves}
use Rattle.vd_machine.proofs.Layers.{address-Ptr, address-Undef, address-Int}
use Rattle.vd_machine.proofs.Walks.{walked_more, walked_fault}
use Rattle.vd_machine.proofs.evaluate.+evaluate.Goals as goal

pub address-returns-in-Ok : goal.address-returns-in-Ok
address-returns-in-Ok t c =
    let a = c.args in
    let f : FitsSigned w128 c.in-Ok.offset = search rules in
    c.place.ensures ∙ ap (λ z. placed c.in-Ptr.block z) (to_z-of_z w128 c.in-Ok.offset f) ∙ sym (address-Ptr a.globals.now a.temps.now a.l.now c.in-Ptr.block c.in-Ptr.offset (Ok c.in-Ok.offset) c.in-Ptr.ensures
    (λ b. ap (λ p. moved b (pos c.in-Ptr.offset) (map (part_moves a.globals.now a.temps.now) p)) (sym c.as_slice.ensures) ∙ c.in-Ok.ensures b))

pub address-returns-in-Err : goal.address-returns-in-Err
address-returns-in-Err t c =
    let a = c.args in
    sym (address-Ptr a.globals.now a.temps.now a.l.now c.in-Ptr.block c.in-Ptr.offset (Err c.in-Err.cause) c.in-Ptr.ensures
    (λ b. ap (λ p. moved b (pos c.in-Ptr.offset) (map (part_moves a.globals.now a.temps.now) p)) (sym c.as_slice.ensures) ∙ c.in-Err.ensures b))

pub address-returns-in-Undef : goal.address-returns-in-Undef
address-returns-in-Undef t c = sym (address-Undef c.args.globals.now c.args.temps.now c.args.l.now c.in-Undef.ensures)

pub address-returns-in-Int : goal.address-returns-in-Int
address-returns-in-Int t c = sym (address-Int c.args.globals.now c.args.temps.now c.args.l.now c.in-Int.field-0 c.in-Int.ensures)

pub walk-loop-part-preserved : goal.walk-loop-part-preserved
walk-loop-part-preserved t c =
    let f : FitsSigned w128 c.sum-offset.result = search rules in
    let g : FitsSigned w64 c.in-Ok.by = search rules in
    walked_more (part_moves c.args.globals.now c.args.temps.now) c.args.path.now c.args.from c.loop-part.part-index (to_z w128 c.loop-part.offset-bits) c.in-Ok.by
    (to_z w128 (of_z w128 c.sum-offset.result)) c.part-item.result c.loop-part-test.true c.part-item.is c.in-Ok.ensures.value c.loop-part.invariant
    c.in-Ok.ensures.low c.in-Ok.ensures.high
    (to_z-of_z w128 c.sum-offset.result f ∙ c.sum-offset.ensures ∙ ap (λ y. to_z w128 c.loop-part.offset-bits +ℤ y) (to_z-of_z w64 c.in-Ok.by g))

pub walk-returns-in-Err : goal.walk-returns-in-Err
walk-returns-in-Err t c =
    walked_fault (part_moves c.args.globals.now c.args.temps.now) c.args.path.now c.args.from c.loop-part.part-index (to_z w128 c.loop-part.offset-bits) c.in-Err.cause
    c.part-item.result c.loop-part-test.true c.part-item.is c.in-Err.ensures.value c.loop-part.invariant
