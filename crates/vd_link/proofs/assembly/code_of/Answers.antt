use Rattle.vd_code.specs.Code.{IsAlone}
use Rattle.vd_link.proofs.Units.{at_same, is_added, is_none, none_taken, taken_more, unit_none, within_same}
use Rattle.vd_link.proofs.assembly.code_of.Goals as goal

pub loop-unit-init : goal.loop-unit-init
loop-unit-init c = none_taken c.new-code.result c.new-code.ensures.0 c.new-code.ensures.1

pub returns-then-not-branch : goal.returns-then-not-branch
returns-then-not-branch c = unit_none c.args.units.now c.loop-unit.unit-index c.unit-item.result (within_same c.as_slice-unit-items.result.now c.args.units.now c.loop-unit.unit-index c.as_slice-unit-items.ensures c.loop-unit-test.true) (at_same c.as_slice-unit-items.result.now c.args.units.now c.loop-unit.unit-index c.unit-item.result c.as_slice-unit-items.ensures c.unit-item.is) (is_none (IsAlone c.unit-item.result) c.loop-unit.code c.add_unit.new.code c.in_ok-add_unit.field-0 c.if-not-branch.true c.in_ok-add_unit.ensures)

pub loop-unit-preserved : goal.loop-unit-preserved
loop-unit-preserved c =
    taken_more c.args.units.now c.loop-unit.unit-index c.unit-item.result c.loop-unit.code c.add_unit.new.code (within_same c.as_slice-unit-items.result.now c.args.units.now c.loop-unit.unit-index c.as_slice-unit-items.ensures c.loop-unit-test.true) (at_same c.as_slice-unit-items.result.now c.args.units.now c.loop-unit.unit-index c.unit-item.result c.as_slice-unit-items.ensures c.unit-item.is) c.loop-unit.invariant (is_added (IsAlone c.unit-item.result) c.loop-unit.code c.add_unit.new.code c.in_ok-add_unit.field-0 c.if-not-branch.false c.in_ok-add_unit.ensures)
