use Rattle.std.proofs.Common.{subst}
use Rattle.vd_singles.specs.Table.{CountsNames}
use Rattle.vd_units.proofs.Shapes.{all_met, first_other, none_met, one_met, stands_here}
use Rattle.vd_units.proofs.shape.units_named.Goals as goal

pub loop-name-init : goal.loop-name-init
loop-name-init c = λ entries is. none_met entries c.args.names.now c.new-units.result c.new-units.ensures

pub returns-in-None : goal.returns-in-None
returns-in-None c = λ entries is.
    let counts = subst (λ ns. CountsNames ns c.in_ok-counts.counts) c.as_slice.ensures c.in_ok-counts.ensures in
    let so_far = c.loop-name.invariant entries is in
    let stands = stands_here entries c.args.names.now c.as_slice-name-items.result.now c.as_slice-name-items.ensures c.loop-name.name-index c.name-item.result c.loop-name.units c.loop-name-test.true c.name-item.is so_far in
    first_other entries c.args.names.now c.as_slice-name-items.result.now c.as_slice-name-items.ensures c.loop-name.name-index c.name-item.result c.loop-name.units c.loop-name-test.true c.name-item.is so_far
    c.in_ok-copy-in-None.field-0 c.in_ok-copy-in-None.ensures (rw c.in-None.is at (c.in_ok-outline.ensures entries c.args.names.now is counts stands))

pub loop-name-preserved : goal.loop-name-preserved
loop-name-preserved c = λ entries is.
    let counts = subst (λ ns. CountsNames ns c.in_ok-counts.counts) c.as_slice.ensures c.in_ok-counts.ensures in
    let so_far = c.loop-name.invariant entries is in
    let stands = stands_here entries c.args.names.now c.as_slice-name-items.result.now c.as_slice-name-items.ensures c.loop-name.name-index c.name-item.result c.loop-name.units c.loop-name-test.true c.name-item.is so_far in
    one_met entries c.args.names.now c.as_slice-name-items.result.now c.as_slice-name-items.ensures c.loop-name.name-index c.name-item.result c.loop-name.units c.loop-name-test.true c.name-item.is so_far
    c.in-Some.outline c.push.new.self (rw c.in-Some.is at (c.in_ok-outline.ensures entries c.args.names.now is counts stands)) c.in_ok-push-in-Some.ensures.ok

pub returns : goal.returns
returns c = λ entries is. all_met entries c.args.names.now c.as_slice-name-items.result.now c.loop-name.name-index c.loop-name.units c.as_slice-name-items.ensures c.loop-name-test.false (c.loop-name.invariant entries is)
