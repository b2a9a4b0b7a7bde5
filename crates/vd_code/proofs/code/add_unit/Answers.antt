use Rattle.vd_code.proofs.Scoping.{unit_code, unit_no_scope}
use Rattle.vd_code.proofs.code.add_unit.Goals as goal

pub returns-in-Some : goal.returns-in-Some
returns-in-Some c = unit_code c.args.unit.now c.in-Some.scope (rw c.in-Some.is at c.in_ok-scope.ensures) c.as_slice.result.now c.args.code.now c.add_scoped.new.code c.add_scoped.result c.as_slice.ensures c.add_scoped.ensures

pub returns-in-None : goal.returns-in-None
returns-in-None c = unit_no_scope c.args.unit.now (rw c.in-None.is at c.in_ok-scope.ensures)
