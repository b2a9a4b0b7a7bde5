use Rattle.std.proofs.Common.{[], List, subst, sym}
use Rattle.vd_declared.specs.declared.declared.Declaration.{Declaration}
use Rattle.vd_declared.specs.Listed.{UnitsDeclare, no_units}
use Rattle.vd_declared.proofs.Listing.{units_listed, units_next}
use Rattle.vd_declared.proofs.declared.declarations_of.Goals as goal

pub loop-unit-init : goal.loop-unit-init
loop-unit-init c = subst (λ (ds : List Declaration). UnitsDeclare 0 [] ds) (sym c.new-found.ensures.items) no_units

pub loop-unit-preserved : goal.loop-unit-preserved
loop-unit-preserved c = units_next c.args.units.now c.loop-unit.unit c.index-units-unit.result c.as_slice.result.now c.loop-unit.found.items c.add_sections.new.found.items c.loop-unit-test.true c.index-units-unit.is c.as_slice.ensures c.loop-unit.invariant
    c.in_ok-add_sections.ensures

pub returns : goal.returns
returns c = units_listed c.args.units.now c.loop-unit.unit c.loop-unit.found.items c.loop-unit-test.false c.loop-unit.invariant
