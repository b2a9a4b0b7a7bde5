use Rattle.std.proofs.Common.{sym, ◌∙◌}
use Rattle.vd_declared.proofs.Mains.{unit_with, unit_with_second, unit_without, units_with}
use Rattle.vd_declared.proofs.main_of.has_one_main.Goals as goal
use Rattle.vd_declared.proofs.main_of.has_one_main.Goals.{in-Some+else-is_some, in_default}

pub returns-then-is_some : goal.returns-then-is_some
returns-then-is_some c =
    let units = c.args.units.now in
    let items = c.as_slice-unit-items.result.now in
    let n = c.loop-unit.unit-index in
    let o = c.unit-item.result in
    let main = c.in_ok-function.field-0 in
    let found = c.loop-unit.found in
    let second = sym c.is_some.ensures ∙ c.if-is_some.true in
    let none = unit_with_second units items n o main found found c.as_slice-unit-items.ensures c.loop-unit-test.true c.unit-item.is c.in_ok-function.ensures c.loop-unit.invariant c.in-Some.function c.in-Some.is second in
    (λ one. absurd (cc), λ one. absurd (none one))

pub loop-unit-preserved : goal.loop-unit-preserved
loop-unit-preserved c =
    let units = c.args.units.now in
    let items = c.as_slice-unit-items.result.now in
    let n = c.loop-unit.unit-index in
    let o = c.unit-item.result in
    let main = c.in_ok-function.field-0 in
    let found = c.loop-unit.found in
    let next = c.match-branch-2.found in
    elim c.match-branch-2.branch [
      | in-Some+else-is_some w ↦
          unit_with units items n o main found next c.as_slice-unit-items.ensures c.loop-unit-test.true c.unit-item.is c.in_ok-function.ensures c.loop-unit.invariant w.in-Some.function w.is_main.result w.in-Some.is (sym w.is_some.ensures ∙ w.if-is_some.false) w.is_main.ensures w.found-is
      | in_default w ↦ unit_without units items n o main found next c.as_slice-unit-items.ensures c.loop-unit-test.true c.unit-item.is c.in_ok-function.ensures c.loop-unit.invariant w.in_default.is w.found-is
    ]

pub returns : goal.returns
returns c = units_with c.args.units.now c.as_slice-unit-items.result.now c.loop-unit.unit-index c.loop-unit.found c.eq.result c.as_slice-unit-items.ensures c.loop-unit-test.false c.loop-unit.invariant c.eq.ensures
